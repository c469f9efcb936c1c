-- Each unit of a lesser rank than this has shown itself.
use Rattle.plant.specs.Steps.{HaveShown, AreKept}
use Rattle.plant.proofs.plant.Plant.show_units.Given as goal

abbrev pub invariant-loop-rank : goal.invariant-loop-rank
invariant-loop-rank l = HaveShown l.self l.rank 0 l.states l.streams × AreKept l.self l.fn.streams l.streams
