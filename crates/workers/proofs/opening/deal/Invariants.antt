use Rattle.std.proofs.Common.{◌≡◌, drop, length}
use Rattle.std.specs.Vec.Iter.{into_iter_items, into_iter_len}
use Rattle.workers.proofs.Hands.{IsPartly}
use Rattle.workers.proofs.opening.deal.Given as goal

abbrev pub invariant-loop-hand : goal.invariant-loop-hand
invariant-loop-hand l = record {
  counted : into_iter_len l.passes ≡ length (into_iter_items l.passes);
  left : into_iter_items l.passes ≡ drop l.hand-index l.fn.passes.items;
  partly : IsPartly l.fn.hands l.fn.passes.items l.hands l.hand-index;
}
