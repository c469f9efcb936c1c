use Rattle.std.proofs.Common.{◌≡◌, ◌++◌, length, map}
use Rattle.std.specs.Vec.Iter.{into_iter_items, into_iter_len}
use Rattle.workers.specs.Working.{hand_of}
use Rattle.workers.proofs.relaxing.hands_of.Given as goal

abbrev pub invariant-loop-bench : goal.invariant-loop-bench
invariant-loop-bench l = record {
  counted : into_iter_len l.bench-iterator ≡ length (into_iter_items l.bench-iterator);
  hands : l.hands.items ++ map hand_of (into_iter_items l.bench-iterator) ≡ map hand_of l.fn.benches.items;
}
