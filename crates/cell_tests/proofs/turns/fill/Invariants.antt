use Rattle.stream_cell.specs.Seats.{IsPassOf}
use Rattle.cell_tests.proofs.turns.fill.Given as goal

abbrev pub invariant-loop-number : goal.invariant-loop-number
invariant-loop-number g l = IsPassOf l.cell l.pass
