-- Each turn took one of the units that the seat is given at most.
use Rattle.std.proofs.Common.{◌+◌, ◌*◌, ◌<◌, ◌≤◌, length}
use Rattle.plant_units.specs.Units.{units_of}
use Rattle.worker.specs.Knowing.{IsHand}
use Rattle.worker.specs.Rooms.{IsRoom}
use Rattle.worker.proofs.turns.work.Given as goal

abbrev pub invariant-loop-turns : goal.invariant-loop-turns
invariant-loop-turns g l = record {
  seat : g.D.Desk.is_seat l.desk l.seat;
  left : 0 < l.turns → g.D.Desk.left l.desk l.seat + l.turns ≤ 32 * length (units_of l.plan.parts);
  hand : IsHand g.C.CellLike.opening g.C.CellLike.is_pass l.plan l.worker l.cells l.hand.passes.items;
  room : IsRoom l.plan l.room;
}
