use Rattle.turn_desk.specs.Passes.{IsPassOf}
use Rattle.desk_tests.proofs.draws.draws_all.Given as goal

abbrev pub invariant-loop-number : goal.invariant-loop-number
invariant-loop-number _ l = IsPassOf l.desk l.pass
