-- The room that a worker renews units in.
use Rattle.std.specs.Prelude.{◌≡◌, ◌<◌, ℕ, length, slice_index_or}
use Rattle.plant_units.specs.Units.{units_of}
use Rattle.renewal.specs.Plan.{PlanOf}
use Rattle.renewal.specs.Room.{AreOpened, HasRoomFor, planned}
use Rattle.worker.specs.declared.room.UnitRoom.{UnitRoom}
use Rattle.worker.specs.declared.room.Room.{Room}

-- the unit may be renewed in it
pub record IsUnitRoom (plan : PlanOf) (u : ℕ) (room : UnitRoom) : Type 0 where
  pub inputs : AreOpened plan (planned plan u).reads room.inputs
  pub outputs : HasRoomFor plan u room.outputs

-- there is room for each unit
pub record IsRoom (plan : PlanOf) (room : Room) : Type 0 where
  pub counted : length room.units.items ≡ length (units_of plan.parts)
  pub each : (u : ℕ) (d : UnitRoom) → u < length (units_of plan.parts) → IsUnitRoom plan u (slice_index_or room.units.items u d)
