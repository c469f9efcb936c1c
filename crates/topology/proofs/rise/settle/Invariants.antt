use Rattle.std.proofs.Common.{◌*◌, ◌-◌, sum, length}
use Rattle.topology.specs.Rising.{AreRising}
use Rattle.topology.proofs.rise.settle.Given as goal

abbrev pub invariant-loop : goal.invariant-loop
invariant-loop l = AreRising l.links l.ranks

-- how far the sum of the ranks is from its limit
abbrev pub decreases-loop : goal.decreases-loop
decreases-loop l = length l.links.instant * length l.links.instant - sum l.ranks
