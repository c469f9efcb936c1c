-- Words of the proofs: a reader of the contracts needs none of them.
-- Which of two numbers is taken.
use Rattle.std.specs.Prelude.{◌≡◌, ℤ, ◌≤ℤ◌, ◌<ℤ◌}

-- the first of two numbers where c is not above d, and else the second
pub record IsPicked (c d first second z : ℤ) : Type 0 where
  pub ahead : c ≤ℤ d → z ≡ first
  pub turned : d <ℤ c → z ≡ second
