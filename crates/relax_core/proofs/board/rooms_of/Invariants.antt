-- The units so far have room.
use Rattle.relax_core.proofs.Rooms.{HasRoomsBelow}
use Rattle.relax_core.proofs.board.rooms_of.Given as goal

abbrev pub invariant-loop-unit : goal.invariant-loop-unit
invariant-loop-unit l = HasRoomsBelow l.plan l.unit l.rooms.items
