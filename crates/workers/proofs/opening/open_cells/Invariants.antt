use Rattle.std.proofs.Common.{◌≡◌, length}
use Rattle.workers.specs.Cells.{AreOpen}
use Rattle.workers.proofs.opening.open_cells.Given as goal

abbrev pub invariant-loop-stream : goal.invariant-loop-stream
invariant-loop-stream l = record {
  counted : length l.cells.items ≡ l.stream;
  open-so-far : AreOpen l.plan l.workers l.cells.items l.hands.items;
}
