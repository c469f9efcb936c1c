-- Each unit of the rank below this one has shown itself.
use Rattle.plant.specs.Steps.{HaveShown, AreKept}
use Rattle.plant.proofs.plant.Plant.show_rank.Given as goal

abbrev pub invariant-loop-number : goal.invariant-loop-number
invariant-loop-number l = HaveShown l.self l.rank l.number l.states l.streams × AreKept l.self l.fn.streams l.streams
