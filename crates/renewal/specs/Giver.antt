-- The unit of a plan that has a number.
use Rattle.std.specs.Prelude.{◌≡◌, ◌<◌, ℕ, length}
use Rattle.plant_units.specs.declared.units.Unit.{Unit}
use Rattle.plant_units.specs.Units.{units_of, sheet_unit}
use Rattle.plant.specs.Sound.{IsSoundUnit}
use Rattle.renewal.specs.Plan.{PlanOf, IsPlan}
use Rattle.renewal.specs.Room.{planned}

-- the plan is one, and this is the unit of its plant with this number, as the plant was built
pub record IsGiver (plan : PlanOf) (u : ℕ) (x : Unit) : Type 0 where
  pub plan_is : IsPlan plan
  pub there : u < length (units_of plan.parts)
  pub sound : IsSoundUnit plan.parts u x
  pub is : planned plan u ≡ sheet_unit x
