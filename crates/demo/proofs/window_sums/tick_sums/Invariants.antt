use Rattle.std.proofs.Common.{ℕ, []}
use Rattle.std.specs.Prelude.{slice_index_or}
use Rattle.relaxation.specs.Tube.{at}
use Rattle.demo.specs.Summary.{sum_below, sum_of_bands}
use Rattle.demo.specs.Adding.{AreSums}
use Rattle.demo.proofs.window_sums.tick_sums.Given as goal

-- the sums over the streams so far
abbrev pub invariant-loop-s : goal.invariant-loop-s
invariant-loop-s l =
    AreSums l.sums (λ f. sum_below l.s (λ (s : ℕ). sum_of_bands f (at (slice_index_or l.window.tubes s []) l.tick)))
