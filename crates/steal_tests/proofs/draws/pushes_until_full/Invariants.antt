use Rattle.steal_desk.specs.Seats.{IsSeatOf}
use Rattle.steal_tests.proofs.draws.pushes_until_full.Given as goal

abbrev pub invariant-loop : goal.invariant-loop
invariant-loop _ l = IsSeatOf l.desk l.seat
