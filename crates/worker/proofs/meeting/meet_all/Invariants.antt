-- What was seen stays.
use Rattle.worker.specs.Knowing.{IsHand, seen_by}
use Rattle.worker.specs.Looking.{IsRenewedFrom}
use Rattle.worker.proofs.meeting.meet_all.Given as goal

abbrev pub invariant-loop-port : goal.invariant-loop-port
invariant-loop-port g l = record {
  hand : IsHand g.C.CellLike.opening g.C.CellLike.is_pass l.plan l.worker l.cells l.passes.items;
  renewed : IsRenewedFrom l.plan (seen_by l.passes.items) l.unit l.uses l.outputs;
}
