use Rattle.tables.proofs.KeptRows.{kept_zero}
use Rattle.tables.proofs.kept_row.KeptRow.new.Goals as goal

pub invariant_of-result : goal.invariant_of-result
invariant_of-result c =
    kept_zero c.len-head.result c.in_ok-text.text c.push.new.self c.point.result c.len-head.ensures c.point.ensures
    c.in_ok-push.ensures
