-- What reading up to a limit gives.
use Rattle.std.specs.Prelude.{◌≡◌, ℕ, ◌+◌, ◌<◌, ◌≤◌, ◌↔◌, Bool, IsTrue, List, [], length, take, drop, Option, Some, if◌then◌else◌}

-- the bytes that were read, and whether there are more
pub record ReadText : Type 0 where
  pub bytes : List ℕ
  pub more : Bool

-- the first bytes of the text up to the limit, whether it has more, and what is then left
pub record ReadsUp (limit : ℕ) (text : List ℕ) (up : ReadText) (left : Option (List ℕ)) : Type 0 where
  pub bytes : up.bytes ≡ take limit text
  pub more : IsTrue up.more ↔ (limit < length text)
  pub rest : left ≡ Some (if up.more then drop (limit + 1) text else [])

-- some of the text was taken, at most one byte beyond the limit
abbrev pub TakesSome : ℕ → List ℕ → Option (List ℕ) → Type 0
TakesSome limit text left = (n : ℕ) × (n ≤ limit + 1) × (left ≡ Some (drop n text))
