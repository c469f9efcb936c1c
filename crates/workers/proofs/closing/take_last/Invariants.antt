use Rattle.std.proofs.Common.{◌≡◌, length}
use Rattle.workers.proofs.Hands.{IsPartly}
use Rattle.workers.proofs.closing.take_last.Given as goal

abbrev pub invariant-loop-hand : goal.invariant-loop-hand
invariant-loop-hand l = record {
  counted : length l.passes.items ≡ l.hand-index;
  partly : IsPartly l.hands l.passes.items l.fn.hands l.hand-index;
}
