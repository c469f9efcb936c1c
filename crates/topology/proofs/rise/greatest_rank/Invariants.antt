use Rattle.std.proofs.Common.{◌≡◌, take}
use Rattle.topology.specs.Rising.{greatest}
use Rattle.topology.proofs.rise.greatest_rank.Given as goal

abbrev pub invariant-loop-unit : goal.invariant-loop-unit
invariant-loop-unit l = l.greatest ≡ greatest l.ranks (take l.unit-index l.units)
