-- The next tube's channels are written behind what is gathered.
use Rattle.std.proofs.Common.{◌≡◌, ◌+◌, ◌-◌, ◌∙◌, ◌<◌, List, [], length, get_or, sym, subst, ap, arith}
use Rattle.std.proofs.lemmas.List.{get_or_default}
use Rattle.quant.specs.Interval.{Interval}
use Rattle.relaxation.specs.Tube.{Tube, at}
use borrow.Rule.Slice.PartMut.{put_mid}
use Rattle.plant_units.proofs.Spreads.{IsGathering, gathering-more}
use Rattle.renewal.proofs.renewing.gather_at.Goals as goal

pub loop-tube-preserved : goal.loop-tube-preserved
loop-tube-preserved c =
    let tubes = c.args.tubes.now in
    let i = c.loop-tube.tube-index in
    let place = c.loop-tube.place in
    let channels = c.row-channels.result.now in
    let e : channels ≡ at (get_or tubes i []) c.args.tick =
    c.row-channels.ensures
    ∙ ap (λ tube. at tube c.args.tick) (c.tube-item.is ∙ get_or_default tubes i _ [] c.loop-tube-test.true) in
    let HasTick : Tube → Type 0 = λ tube. c.args.tick < length tube in
    let row : Tube → List Interval = λ tube. at tube c.args.tick in
    let k = place + length channels - place in
    subst (λ (ws : List Interval). IsGathering HasTick row tubes (i + 1) (place + length channels)
    (put_mid place k c.loop-tube.ins ws)) (sym c.copy_from_slice.ensures.after)
    (gathering-more HasTick row tubes [] i place k c.loop-tube.ins channels c.loop-tube-test.true
    c.loop-tube.invariant e (omega arith))
