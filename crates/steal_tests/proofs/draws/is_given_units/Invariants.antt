use Rattle.steal_desk.specs.Seats.{IsSeatOf}
use Rattle.steal_tests.proofs.draws.is_given_units.Given as goal

abbrev pub invariant-loop-unit : goal.invariant-loop-unit
invariant-loop-unit _ l = IsSeatOf l.desk l.seat
