use Rattle.std.proofs.Common.{◌≡◌, ◌++◌, map, take}
use Rattle.plant_checks.specs.Seen.{name_seen}
use Rattle.plant_checks.proofs.names.add_feeds.Given as goal

-- the names so far
abbrev pub invariant-loop-feed : goal.invariant-loop-feed
invariant-loop-feed l = map name_seen l.names.items ≡ map name_seen l.fn.names.items
    ++ map (λ feed. feed.name) (take l.feed-index l.feeds)
