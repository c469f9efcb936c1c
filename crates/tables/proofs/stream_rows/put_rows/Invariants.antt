use Rattle.std.proofs.Common.{◌≡◌, ◌++◌, drop}
use Rattle.tables.specs.Kept.{heads, headed_rows}
use Rattle.tables.proofs.stream_rows.put_rows.Given as goal

-- the heads stay, and the rows so far and those of the channels that are left are the rows of all
abbrev pub invariant-loop-i : goal.invariant-loop-i
invariant-loop-i l =
    let all = heads l.initial.rows in
    record {
      heads : heads l.rows ≡ all;
      rows : l.text ++ headed_rows l.tick (drop l.i all) (drop l.i l.bands)
          ≡ l.initial.text ++ headed_rows l.tick all l.bands;
    }
