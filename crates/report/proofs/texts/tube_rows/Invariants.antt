use Rattle.std.proofs.Common.{◌≡◌}
use Rattle.tables.specs.Output.{rows_of}
use Rattle.report.specs.Output.{labels_of}
use Rattle.relax_core.specs.Settled.{bands_in}
use Rattle.report.proofs.texts.tube_rows.Given as goal

-- the labels are the plant's, and the rows of the ticks before are written
abbrev pub invariant-loop-tick : goal.invariant-loop-tick
invariant-loop-tick l = record {
  streams : l.streams ≡ labels_of l.plant;
  rows : l.rows ≡ rows_of (labels_of l.plant) (bands_in l.window) l.window.first l.tick;
}
