use Rattle.std.proofs.Common.{◌≡◌, ◌++◌, drop}
use Rattle.plant_streams.specs.Streams.{feed_streams}
use Rattle.plant_streams.proofs.made_streams.add_feeds.Given as goal

-- the streams so far, and those of the feeds that are left
abbrev pub invariant-loop-feed : goal.invariant-loop-feed
invariant-loop-feed l =
    l.streams.items ++ feed_streams l.feed (drop l.feed l.feeds) ≡ l.fn.streams.items ++ feed_streams 0 l.feeds
