use Rattle.steal_desk.specs.Seats.{IsSeatOf}
use Rattle.steal_tests.proofs.draws.count_given.Given as goal

abbrev pub invariant-loop-count : goal.invariant-loop-count
invariant-loop-count l = IsSeatOf l.desk l.seat
