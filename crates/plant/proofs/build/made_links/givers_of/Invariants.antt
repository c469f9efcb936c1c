use Rattle.std.proofs.Common.{◌≡◌, ◌++◌, drop}
use Rattle.plant.specs.Seen.{givers_seen}
use Rattle.plant.proofs.build.made_links.givers_of.Given as goal

-- the units so far, and those that give the streams that are left
abbrev pub invariant-loop-number : goal.invariant-loop-number
invariant-loop-number l =
    l.givers.items ++ givers_seen l.streams (drop l.number-index l.numbers) ≡ givers_seen l.streams l.numbers
