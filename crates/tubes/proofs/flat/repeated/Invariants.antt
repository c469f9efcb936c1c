use Rattle.std.proofs.Common.{◌≡◌, ◌*◌, length, replicate}
use Rattle.tubes.specs.Cut.{cut}
use Rattle.tubes.proofs.flat.repeated.Given as goal

abbrev pub invariant-loop : goal.invariant-loop
invariant-loop l = (length l.made.items ≡ l.counter * length l.bands) × (cut l.counter (length l.bands) l.made.items ≡ replicate l.counter l.bands)
