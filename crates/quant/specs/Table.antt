-- Tables of rates by temperature.
use Rattle.std.specs.Prelude.{◌≤◌, ℤ, ◌≤ℤ◌, ◌<ℤ◌, List, [], ◌∷◌, length}
use Rattle.std.specs.List.{All}
use Rattle.quant.specs.Interval.{Interval, Holds}
use Rattle.quant.specs.Operation.{ppm}

-- the rates that a table may give
abbrev pub rates : Interval
rates = ppm

-- the rate of a point is one of these
abbrev pub HasRate : ℤ × ℤ → Type 0
HasRate point = Holds rates point.1

-- the second is at a higher temperature, with no lower rate
pub record IsStep (from to : ℤ × ℤ) : Type 0 where
  pub hotter : from.0 <ℤ to.0
  pub no_less : from.1 ≤ℤ to.1

-- each point is a step from the one before
abbrev pub AreSteps : List (ℤ × ℤ) → Type 0
AreSteps [] = Unit {0}
AreSteps (from ∷ []) = Unit {0}
AreSteps (from ∷ to ∷ rest) = IsStep from to × AreSteps (to ∷ rest)

-- 1 to 64 points in steps, with rates in range
pub record IsTable (points : List (ℤ × ℤ)) : Type 0 where
  pub some : 1 ≤ length points
  pub few : length points ≤ 64
  pub each : All HasRate points
  pub steps : AreSteps points
