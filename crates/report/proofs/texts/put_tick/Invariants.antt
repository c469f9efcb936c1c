use Rattle.std.proofs.Common.{◌≡◌, ℕ, ◌+◌, ◌++◌, [], slice_index_or, drop}
use Rattle.relaxation.specs.Tube.{at}
use Rattle.tables.specs.Output.{rows_from}
use Rattle.report.specs.Output.{labels_of}
use Rattle.report.proofs.texts.put_tick.Given as goal

-- the labels stay, and the rows so far and those of the streams that are left are the rows of all
abbrev pub invariant-loop-s : goal.invariant-loop-s
invariant-loop-s l =
    let bands = λ (s : ℕ). at (slice_index_or l.window.tubes s []) l.tick in
    let tick = l.window.first + l.tick in
    record {
      streams : l.streams ≡ labels_of l.plant;
      rows : l.rows ++ rows_from tick bands l.s (drop l.s (labels_of l.plant))
          ≡ l.initial.rows ++ rows_from tick bands 0 (labels_of l.plant);
    }
