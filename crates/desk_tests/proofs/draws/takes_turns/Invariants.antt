use Rattle.turn_desk.specs.Passes.{IsPassOf}
use Rattle.desk_tests.proofs.draws.takes_turns.Given as goal

abbrev pub invariant-loop-unit : goal.invariant-loop-unit
invariant-loop-unit _ l = IsPassOf l.desk l.pass
