-- The channels so far are covered.
use Rattle.std.proofs.Common.{◌≡◌, take}
use Rattle.feeds.specs.Filling.{covered_at}
use Rattle.feeds.proofs.held.cover.Given as goal

abbrev pub invariant-loop-channel : goal.invariant-loop-channel
invariant-loop-channel l = l.tube ≡ covered_at (take l.channel l.held) l.tick l.fn.tube
