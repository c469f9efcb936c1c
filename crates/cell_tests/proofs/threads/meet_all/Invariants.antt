use Rattle.stream_cell.specs.Seats.{IsPassOf}
use Rattle.cell_tests.proofs.threads.meet_all.Given as goal

abbrev pub invariant-loop-tube : goal.invariant-loop-tube
invariant-loop-tube l = IsPassOf l.cell l.pass
