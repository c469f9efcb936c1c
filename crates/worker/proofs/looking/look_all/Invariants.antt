-- What was looked at so far is there.
use Rattle.renewal.specs.Room.{planned, HasRoomFor}
use Rattle.worker.specs.Knowing.{IsHand, seen_by}
use Rattle.worker.proofs.Taken.{IsTaken}
use Rattle.worker.proofs.looking.look_all.Given as goal

abbrev pub invariant-loop-port : goal.invariant-loop-port
invariant-loop-port g l = record {
  hand : IsHand g.C.CellLike.opening g.C.CellLike.is_pass l.plan l.worker l.cells l.passes.items;
  taken : IsTaken l.plan (seen_by l.passes.items) (planned l.plan l.unit).reads l.port l.base l.numbers l.room.inputs;
  outputs : HasRoomFor l.plan l.unit l.room.outputs;
}
