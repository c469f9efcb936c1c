use Rattle.stream_cell.specs.Seats.{IsPassOf}
use Rattle.cell_tests.proofs.threads.meet_one.Given as goal

abbrev pub invariant-loop : goal.invariant-loop
invariant-loop l = IsPassOf l.cell l.pass
