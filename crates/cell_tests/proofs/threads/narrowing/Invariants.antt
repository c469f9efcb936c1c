use Rattle.std.proofs.Common.{◌≡◌, ◌∷◌, [], All, length, map}
use Rattle.cell_tests.proofs.threads.narrowing.Given as goal

abbrev pub invariant-loop-lo : goal.invariant-loop-lo
invariant-loop-lo l = All (λ tube. map length tube ≡ 1 ∷ []) l.tubes.items
