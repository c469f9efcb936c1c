-- Of the feeds so far nothing is held.
use Rattle.std.proofs.Common.{◌≡◌, map, take}
use Rattle.feeds.specs.Held.{none_of}
use Rattle.feeds.proofs.held.Held.nothing.Given as goal

abbrev pub invariant-loop-feed : goal.invariant-loop-feed
invariant-loop-feed l = l.feeds.items ≡ map (λ feed. none_of feed.kind) (take l.feed-index l.plant.feeds)
