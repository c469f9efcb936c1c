use Rattle.std.proofs.Common.{◌∙◌, length, ap, drop, take, arith}
use Rattle.stream_cell.proofs.Reading.{rows_counted, row_room, next_copied, all_copied}
use Rattle.stream_cell.proofs.rows.copy_rows.Goals as goal

pub row-requires : goal.row-requires
row-requires c = omega (arith, rows_counted c.loop-tick.invariant)

pub split_at-requires : goal.split_at-requires
split_at-requires c = omega (arith, ap length c.row.ensures, row_room c.loop-tick.invariant (omega arith) c.requires)

pub write-requires-clause-tick : goal.write-requires-clause-tick
write-requires-clause-tick c = omega (arith, rows_counted c.loop-tick.invariant)

pub loop-tick-preserved : goal.loop-tick-preserved
loop-tick-preserved c =
    let left = c.loop-tick.left.now in
    next_copied c.loop-tick.invariant (omega arith) c.split_at.result.0.now c.split_at.result.1.now c.write.new.self
    (c.split_at.ensures.front ∙ ap (λ row. take (length row) left) c.row.ensures)
    (c.split_at.ensures.back ∙ ap (λ row. drop (length row) left) c.row.ensures)
    c.write.ensures

pub returns : goal.returns
returns c = all_copied c.loop-tick.invariant (omega arith)
