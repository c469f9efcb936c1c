-- What a read does.
use Rattle.std.specs.Prelude.{◌≡◌, ℕ, ◌<◌, ◌≤◌, List, [], length, take, drop, Option, Some, None, IfSome}

-- n bytes were read: the first of the text that was left, where the source tells it
pub record ReadsFront (text : List ℕ) (left : Option (List ℕ)) (before after : List ℕ) (n : ℕ) : Type 0 where
  pub enough : n ≤ length text
  pub bytes : take n after ≡ take n text
  pub rest : left ≡ Some (drop n text)
  -- none is read into a buffer with room only at the end
  pub ends : 0 < length before → n ≡ 0 → text ≡ []

-- n bytes were read into the buffer
pub record Reads (left_before left_after : Option (List ℕ)) (before after : List ℕ) (n : ℕ) : Type 0 where
  pub fits : n ≤ length before
  pub told : IfSome left_before (λ text. ReadsFront text left_after before after n)
  pub untold : left_before ≡ None → left_after ≡ None

-- a source in memory: what is left, the numbers of the calls that fail, how many were made, how many failed
pub record MemoryText : Type 0 where
  pub left : List ℕ
  pub failing : List ℕ
  pub calls : ℕ
  pub faults : ℕ
