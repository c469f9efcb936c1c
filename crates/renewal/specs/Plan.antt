-- A window plan: a built plant, some of its ticks, the bands carried into each unit's states, and the tubes of its
-- feeds.
use Rattle.std.specs.Prelude.{◌≡◌, ℕ, ◌+◌, ◌<◌, ◌≤◌, List, [], length, replicate, slice_index_or}
use Rattle.quant.specs.Interval.{Interval, AllBands, AllInside}
use Rattle.flowsheet.specs.Plant.{Origin, feed, port, unit_at, origin_of}
use Rattle.relaxation.specs.Tube.{Tube, at}
use Rattle.relaxation.specs.Window.{Window}
use Rattle.parts.specs.Parts.{FileParts}
use Rattle.plant_streams.specs.Limits.{limits_at}
use Rattle.plant_units.specs.Units.{units_of}
use Rattle.plant.specs.PlantOf.{plant_of}
use Rattle.plant.specs.Sound.{IsPlant}

pub record PlanOf : Type 0 where
  pub parts : FileParts
  -- the first of its ticks among the plant's, and how many they are
  pub first : ℕ
  pub ticks : ℕ
  -- of each unit
  pub carried : List (List Interval)
  -- of each feed
  pub feeds : List Tube

abbrev pub carried_into : PlanOf → ℕ → List Interval
carried_into plan u = slice_index_or plan.carried u []

abbrev pub fed_by : PlanOf → ℕ → Tube
fed_by plan f = slice_index_or plan.feeds f []

-- the tube that a stream opens with: a feed's own, or the limits of a unit's output at each tick
abbrev pub opening_from : PlanOf → Origin → Tube
opening_from plan (feed f) = fed_by plan f
opening_from plan (port u p) =
    replicate plan.ticks (slice_index_or (unit_at (plant_of plan.parts) u).output_limits p [])

-- the window that the plan is
abbrev pub window_of : PlanOf → Window
window_of plan = record {
  plant = plant_of plan.parts;
  ticks = plan.ticks;
  carried = carried_into plan;
  feeds = λ t f. at (fed_by plan f) t;
  opening = λ s. opening_from plan (origin_of (plant_of plan.parts) s);
}

-- bands that have numbers in them, inside these limits
pub record AreWithin (bands limits : List Interval) : Type 0 where
  pub numbers : AllBands bands
  pub inside : AllInside bands limits

-- of each unit of the plant, bands inside the limits of its states
pub record AreCarried (parts : FileParts) (carried : List (List Interval)) : Type 0 where
  pub counted : length carried ≡ length (units_of parts)
  pub within : (u : ℕ) → u < length (units_of parts) →
      AreWithin (slice_index_or carried u []) (unit_at (plant_of parts) u).state_limits

-- The ticks are the plant's, 1 to 64 of them; the bands carried into each unit lie in the limits of its states, and
-- those of each feed in its own.
pub record IsPlan (plan : PlanOf) : Type 0 where
  pub plant : IsPlant plan.parts
  pub some : 1 ≤ plan.ticks
  pub few : plan.ticks ≤ 64
  pub inside : plan.first + plan.ticks ≤ plan.parts.ticks
  pub units : length plan.carried ≡ length (units_of plan.parts)
  pub carried : (u : ℕ) → u < length (units_of plan.parts) →
      AreWithin (carried_into plan u) (unit_at (plant_of plan.parts) u).state_limits
  pub feeds : length plan.feeds ≡ length plan.parts.feeds
  pub ticked : (f : ℕ) → f < length plan.parts.feeds → length (fed_by plan f) ≡ plan.ticks
  pub fed : (f t : ℕ) → f < length plan.parts.feeds → t < plan.ticks →
      AreWithin (at (fed_by plan f) t) (limits_at plan.parts f)
