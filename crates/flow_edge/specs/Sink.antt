-- What a write does.
use Rattle.std.specs.Prelude.{◌≡◌, ℕ, List, ◌++◌, Option, Some, None, IfSome}

-- the piece was written whole
pub record Gives (before after : Option (List ℕ)) (piece : List ℕ) : Type 0 where
  pub told : IfSome before (λ text. after ≡ Some (text ++ piece))
  pub untold : before ≡ None → after ≡ None

-- some first part of the piece was written
pub record GivesFront (before after : Option (List ℕ)) (piece : List ℕ) : Type 0 where
  pub told : IfSome before (λ text. (front : List ℕ) × (rest : List ℕ) × (piece ≡ front ++ rest) × (after ≡ Some (text ++ front)))
  pub untold : before ≡ None → after ≡ None

-- a sink in memory: what it was given, its room in bytes, the numbers of the calls that fail, how many were made, how many failed
pub record MemoryRoom : Type 0 where
  pub given : List ℕ
  pub room : ℕ
  pub failing : List ℕ
  pub calls : ℕ
  pub faults : ℕ
