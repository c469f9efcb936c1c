use Rattle.std.proofs.Common.{◌≡◌, take}
use Rattle.plant.specs.Steps.{greatest}
use Rattle.plant.proofs.tick.greatest_rank.Given as goal

abbrev pub invariant-loop-rank : goal.invariant-loop-rank
invariant-loop-rank l = l.greatest ≡ greatest (take l.rank-index l.ranks)
