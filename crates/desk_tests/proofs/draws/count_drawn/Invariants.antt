use Rattle.turn_desk.specs.Passes.{IsPassOf}
use Rattle.desk_tests.proofs.draws.count_drawn.Given as goal

abbrev pub invariant-loop-count : goal.invariant-loop-count
invariant-loop-count l = IsPassOf l.desk l.pass
