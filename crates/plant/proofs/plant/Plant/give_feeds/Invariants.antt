-- Each feed below this one has its bands.
use Rattle.plant.specs.Steps.{HaveGiven}
use Rattle.plant.proofs.plant.Plant.give_feeds.Given as goal

abbrev pub invariant-loop-number : goal.invariant-loop-number
invariant-loop-number l = HaveGiven l.self l.tick l.number l.fn.streams l.streams
