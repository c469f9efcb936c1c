use Rattle.std.proofs.Common.{◌∙◌, ap}
use Rattle.std.proofs.lemmas.Result.{on_ok_weaker}
use Rattle.tables.specs.Kept.{heads}
use Rattle.tables.proofs.KeptRows.{stream_rows-headed}
use Rattle.tables.proofs.stream_rows.StreamRows.put.Goals as goal

pub returns-clause-rows : goal.returns-clause-rows
returns-clause-rows c =
    on_ok_weaker c.put_rows.result
    (stream_rows-headed c.args.tick.now c.self.inside.name.now c.self.inside.signal c.args.self.now
    (heads c.as_mut_slice.result.now) c.args.bands.now _ _ c.self.view_is
    (ap heads c.as_mut_slice.ensures.value ∙ c.self.invariant))
    c.put_rows.ensures.rows
