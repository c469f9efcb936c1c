use Rattle.std.proofs.Common.{◌<◌, ◌≡◌, ◌∙◌, length, min, ap, sym, arith}
use Rattle.std.proofs.lemmas.List.{length-map}
use Rattle.tables.specs.Kept.{heads}
use Rattle.tables.proofs.KeptRows.{same_heads, headed_rows-step, headed_rows-end}
use Rattle.tables.proofs.stream_rows.put_rows.Goals as goal

pub returns-in_err-put-clause-heads : goal.returns-in_err-put-clause-heads
returns-in_err-put-clause-heads c =
    same_heads c.loop-i.rows c.loop-i.i c.index-rows-i.result c.put.new.self _ c.put.ensures.head
    c.loop-i.invariant.heads

pub loop-i-preserved : goal.loop-i-preserved
loop-i-preserved c =
    let in_rows : c.loop-i.i < length c.loop-i.rows = omega arith in
    let in_bands : c.loop-i.i < length c.args.bands.now = omega arith in
    record {
      heads = same_heads c.loop-i.rows c.loop-i.i c.index-rows-i.result c.put.new.self _ c.put.ensures.head
          c.loop-i.invariant.heads;
      rows = headed_rows-step c.args.tick.now c.loop-i.rows _ c.args.bands.now c.loop-i.i c.index-rows-i.result
          c.index-bands-i.result _ _ _ in_rows in_bands c.loop-i.invariant.heads c.index-bands-i.is
          c.in_ok-put.ensures.row c.loop-i.invariant.rows;
    }

pub returns-clause-rows : goal.returns-clause-rows
returns-clause-rows c =
    let counted : c.min-i-end.result ≡ min (length (heads c.args.rows.now)) (length c.args.bands.now) =
    c.min-i-end.ensures ∙ ap (λ n. min n (length c.args.bands.now)) (sym (length-map c.args.rows.now (λ r. r.head))) in
    headed_rows-end c.args.tick.now (heads c.args.rows.now) c.args.bands.now c.loop-i.i _ _ _ counted
    c.loop-i-test.false c.loop-i.invariant.rows
