use Rattle.steal_desk.specs.Steps.{AreTried}
use Rattle.steal_desk.proofs.seats.StealSeat.steal.Given as goal

abbrev pub invariant-loop-other : goal.invariant-loop-other
invariant-loop-other l = AreTried l.fn.self.units l.other-index l.initial.other-items l.other-items
