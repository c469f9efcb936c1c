-- The tubes of the feeds so far are covered.
use Rattle.feeds.specs.Filling.{AreCoveredBefore}
use Rattle.feeds.proofs.held.Held.cover.Given as goal

abbrev pub invariant-loop-feed : goal.invariant-loop-feed
invariant-loop-feed l = AreCoveredBefore l.self l.tick l.feed l.fn.tubes l.tubes
