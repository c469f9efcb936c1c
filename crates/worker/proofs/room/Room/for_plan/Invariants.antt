-- The units so far have room.
use Rattle.worker.proofs.Rooms.{HasRoomsBelow}
use Rattle.worker.proofs.room.Room.for_plan.Given as goal

abbrev pub invariant-loop-unit : goal.invariant-loop-unit
invariant-loop-unit l = HasRoomsBelow l.plan l.unit l.units.items
