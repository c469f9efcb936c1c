use Rattle.std.proofs.Common.{ℕ, ◌<◌, ◌≤◌, slice_index}
use Rattle.plant.specs.PlantOf.{most_rank}
use Rattle.plant.proofs.build.made_ranks.first_deep.Given as goal

-- no rank so far is above 16
abbrev pub invariant-loop-unit : goal.invariant-loop-unit
invariant-loop-unit l = (v : ℕ) → v < l.unit → slice_index l.ranks v ≤ most_rank
