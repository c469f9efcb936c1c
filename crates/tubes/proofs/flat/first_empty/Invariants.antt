use Rattle.std.proofs.Common.{ℕ, ◌<◌}
use Rattle.quant.specs.Interval.{IsBand}
use Rattle.relaxation.specs.Tube.{meet_bands}
use Rattle.tubes.specs.Flat.{nth}
use Rattle.tubes.proofs.flat.first_empty.Given as goal

abbrev pub invariant-loop-place : goal.invariant-loop-place
invariant-loop-place l = (j : ℕ) → j < l.place → IsBand (nth (meet_bands l.bands l.others) j)
