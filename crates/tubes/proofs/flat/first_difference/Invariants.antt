use Rattle.std.proofs.Common.{◌≡◌, ℕ, ◌<◌}
use Rattle.tubes.specs.Flat.{nth}
use Rattle.tubes.proofs.flat.first_difference.Given as goal

abbrev pub invariant-loop-place : goal.invariant-loop-place
invariant-loop-place l = (j : ℕ) → j < l.place → nth l.bands j ≡ nth l.others j
