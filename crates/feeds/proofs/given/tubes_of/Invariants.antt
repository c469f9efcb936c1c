-- The tubes of the feeds so far.
use Rattle.std.proofs.Common.{◌≡◌, ◌+◌, map}
use Rattle.std.specs.List.{range_with_len}
use Rattle.relaxation.specs.Tube.{tube_of}
use Rattle.parts.specs.Given.{given_bands}
use Rattle.feeds.proofs.given.tubes_of.Given as goal

abbrev pub invariant-loop-feed : goal.invariant-loop-feed
invariant-loop-feed l = l.tubes.items
    ≡ map (λ f. tube_of (λ t. given_bands l.plant (l.first + t) f) l.ticks) (range_with_len 0 l.feed-index)
