-- What the interval run starts from, and units that keep their limits.
use Rattle.std.specs.Prelude.{◌≡◌, ℕ, ℤ, ◌<◌, List, [], length, slice_index_or}
use Rattle.quant.specs.Interval.{Interval, AllBands, AllInside, points}
use Rattle.quant.specs.Rounding.{Rounding}
use Rattle.quant.specs.Term.{interval}
use Rattle.flowsheet.specs.Plant.{Plant, PlantUnit, feed, unit_at, origin_of}
use Rattle.flowsheet.specs.Reading.{shown, stepped}

-- Each band that is carried into a unit that is there, or fed to a stream that is there at one of n ticks, has a number
-- in it.
pub record AreBands (plant : Plant) (carried : ℕ → List Interval) (feeds : ℕ → ℕ → List Interval) (n : ℕ) : Type 0 where
  pub states : (u : ℕ) → u < length plant.units → AllBands (carried u)
  pub fed : (t s f : ℕ) → t < n → s < length plant.streams → origin_of plant s ≡ feed f → AllBands (feeds t f)

-- each of them is one number
pub record ArePoints (plant : Plant) (carried : ℕ → List Interval) (feeds : ℕ → ℕ → List Interval) (n : ℕ) :
    Type 0 where
  pub states : (u : ℕ) → u < length plant.units → (zs : List ℤ) × (carried u ≡ points zs)
  pub fed : (t s f : ℕ) → t < n → s < length plant.streams → origin_of plant s ≡ feed f →
      (zs : List ℤ) × (feeds t f ≡ points zs)

-- Whatever its inputs are, the unit steps into the limits of its states, and from states in there it shows outputs in
-- theirs.
pub record KeepsLimits (r : Rounding) (unit : PlantUnit) : Type 0 where
  pub next : (states inputs : List Interval) → AllBands states → AllBands inputs →
      AllInside (stepped (interval r) unit states inputs) unit.state_limits
  pub view : (p : ℕ) (states inputs : List Interval) → AllBands states → AllBands inputs →
      AllInside states unit.state_limits →
      AllInside (shown (interval r) unit p states inputs) (slice_index_or unit.output_limits p [])

-- each unit keeps its limits, and starts in them
pub record IsLimited (plant : Plant) (carried : ℕ → List Interval) : Type 0 where
  pub keeps : (u : ℕ) → u < length plant.units → KeepsLimits plant.rounding (unit_at plant u)
  pub starts : (u : ℕ) → u < length plant.units → AllInside (carried u) (unit_at plant u).state_limits
