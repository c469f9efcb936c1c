use Rattle.stream_cell.specs.Flat.{IsCopied}
use Rattle.stream_cell.proofs.rows.copy_rows.Given as goal

abbrev pub invariant-loop-tick : goal.invariant-loop-tick
invariant-loop-tick l = IsCopied l.bands l.fn.into l.into l.tick l.left
