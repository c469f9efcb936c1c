-- The ticks so far have the given bands.
use Rattle.feeds.specs.Ticks.{IsGivenBefore}
use Rattle.feeds.proofs.given.given_tube.Given as goal

abbrev pub invariant-loop-tick : goal.invariant-loop-tick
invariant-loop-tick l = IsGivenBefore l.kind l.first l.ticks l.tick l.tube
