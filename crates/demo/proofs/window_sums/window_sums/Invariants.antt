use Rattle.std.proofs.Common.{ℕ}
use Rattle.demo.specs.Summary.{sum_below}
use Rattle.demo.specs.Adding.{AreSums, sum_at}
use Rattle.demo.proofs.window_sums.window_sums.Given as goal

-- the sums over the ticks so far
abbrev pub invariant-loop-tick : goal.invariant-loop-tick
invariant-loop-tick l = AreSums l.sums (λ f. sum_below l.tick (λ (t : ℕ). sum_at l.window t f))
