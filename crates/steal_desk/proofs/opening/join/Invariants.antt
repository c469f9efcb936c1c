use Rattle.steal_desk.specs.Making.{AreLinked}
use Rattle.steal_desk.proofs.opening.join.Given as goal

abbrev pub ghost-add_others : goal.ghost-add_others
ghost-add_others g a = g.units

abbrev pub invariant-loop-worker : goal.invariant-loop-worker
invariant-loop-worker g l = AreLinked g.units l.worker l.initial.seats l.seats
