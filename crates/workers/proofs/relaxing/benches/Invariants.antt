use Rattle.std.proofs.Common.{◌≡◌, ◌++◌, All, length, map}
use Rattle.std.specs.Vec.Iter.{into_iter_items, into_iter_len}
use Rattle.turn_desk.specs.Passes.{IsPassOf}
use Rattle.workers.specs.Working.{IsReady, hand_of}
use Rattle.workers.proofs.relaxing.benches.Given as goal

abbrev pub invariant-loop-hand : goal.invariant-loop-hand
invariant-loop-hand l = record {
  counted : into_iter_len l.hand-iterator ≡ length (into_iter_items l.hand-iterator);
  seats : length l.seats.items ≡ length (into_iter_items l.hand-iterator);
  passes : All (IsPassOf l.desk) l.seats.items;
  hands : map hand_of l.benches.items ++ into_iter_items l.hand-iterator ≡ l.fn.hands.items;
  ready : All (IsReady l.plan l.desk) l.benches.items;
}
