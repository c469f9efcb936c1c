use Rattle.steal_desk.specs.Making.{IsStarting}
use Rattle.steal_desk.proofs.opening.new_seat.Given as goal

abbrev pub invariant-loop-unit : goal.invariant-loop-unit
invariant-loop-unit l = IsStarting l.desk l.workers l.worker l.unit l.seat
