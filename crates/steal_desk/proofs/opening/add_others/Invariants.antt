use Rattle.steal_desk.specs.Making.{AreAdded}
use Rattle.steal_desk.proofs.opening.add_others.Given as goal

abbrev pub ghost-as_other : goal.ghost-as_other
ghost-as_other g a = g.units

abbrev pub invariant-loop-index : goal.invariant-loop-index
invariant-loop-index g l = AreAdded g.units l.first l.index l.initial.seats l.seats l.initial.others.items l.others.items
