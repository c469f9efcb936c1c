-- Each feed below this one has its bands.
use Rattle.stepping.specs.Stepping.{HaveFed}
use Rattle.stepping.proofs.ticks.give_feeds.Given as goal

abbrev pub invariant-loop-feed : goal.invariant-loop-feed
invariant-loop-feed l = HaveFed l.plant l.tick l.feed l.feeds l.fn.row l.row
