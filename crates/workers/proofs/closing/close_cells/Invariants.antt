use Rattle.std.proofs.Common.{length, vec_len}
use Rattle.std.specs.Prelude.{reverse}
use Rattle.workers.specs.Cells.{AreClosed, AreLeft}
use Rattle.workers.proofs.closing.close_cells.Given as goal

abbrev pub decreases-loop-cell : goal.decreases-loop-cell
decreases-loop-cell l = vec_len l.cells

abbrev pub invariant-loop-cell : goal.invariant-loop-cell
invariant-loop-cell l = record {
  left : AreLeft l.fn.cells.items l.fn.hands.items l.cells.items l.hands.items;
  closed : AreClosed l.fn.cells.items l.fn.hands.items (length l.cells.items) (reverse l.histories.items);
}
