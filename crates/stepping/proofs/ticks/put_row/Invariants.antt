use Rattle.std.proofs.Common.{◌≡◌, ◌++◌, drop}
use Rattle.plant.specs.Rows.{stream_in}
use Rattle.tables.specs.Output.{rows_from}
use Rattle.report.specs.Output.{labels_of}
use Rattle.stepping.proofs.ticks.put_row.Given as goal

-- the labels stay, and the rows so far and those of the streams that are left are the rows of all
abbrev pub invariant-loop-stream : goal.invariant-loop-stream
invariant-loop-stream l = record {
  streams : l.streams ≡ labels_of l.plant;
  rows : l.rows ++ rows_from l.tick (stream_in l.row) l.stream (drop l.stream (labels_of l.plant))
      ≡ l.initial.rows ++ rows_from l.tick (stream_in l.row) 0 (labels_of l.plant);
}
