use Rattle.std.proofs.Common.{◌≡◌, All, length}
use Rattle.workers.specs.Cells.{HoldsNone}
use Rattle.workers.proofs.opening.empty_hands.Given as goal

abbrev pub invariant-loop : goal.invariant-loop
invariant-loop l = record {
  counted : length l.hands.items ≡ l.counter;
  none : All HoldsNone l.hands.items;
}
