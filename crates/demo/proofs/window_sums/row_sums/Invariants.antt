use Rattle.std.proofs.Common.{take}
use Rattle.demo.specs.Summary.{sum_of_bands}
use Rattle.demo.specs.Adding.{AreSums}
use Rattle.demo.proofs.window_sums.row_sums.Given as goal

-- the sums over the bands so far
abbrev pub invariant-loop-band : goal.invariant-loop-band
invariant-loop-band l = AreSums l.sums (λ f. sum_of_bands f (take l.band-index l.row))
