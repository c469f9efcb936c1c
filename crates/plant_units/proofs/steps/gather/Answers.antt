-- The next stream's channels are written behind what is gathered.
use Rattle.std.proofs.Common.{◌≡◌, ℕ, ◌<◌, ◌+◌, ◌-◌, ◌∙◌, List, length, get_or, sym, subst, arith}
use Rattle.std.proofs.lemmas.List.{get_or_default}
use Rattle.quant.specs.Interval.{Interval}
use borrow.Rule.Slice.PartMut.{put_mid}
use Rattle.plant_units.specs.Steps.{bands_at}
use Rattle.plant_units.proofs.Spreads.{IsGathering, gathering-more, gathering-known}
use Rattle.plant_units.proofs.steps.gather.Goals as goal

pub loop-number-preserved : goal.loop-number-preserved
loop-number-preserved c =
    let streams = c.args.streams.now in
    let numbers = c.args.numbers.now in
    let i = c.loop-number.number-index in
    let place = c.loop-number.place in
    let number = get_or numbers i 0 in
    let channels = c.as_slice-channels.result.now in
    let IsKnown : ℕ → Type 0 = λ s. s < length streams in
    let known = gathering-known IsKnown (bands_at streams) numbers 0 i place c.loop-number.ins c.loop-number-test.true
    c.loop-number.invariant in
    let e : channels ≡ bands_at streams number =
    c.as_slice-channels.ensures ∙ (c.index-streams-number.is ∙ get_or_default streams number _ _ known) in
    let k = place + length channels - place in
    subst (λ (ws : List Interval). IsGathering IsKnown (bands_at streams) numbers (i + 1) (place + length channels)
    (put_mid place k c.loop-number.ins ws)) (sym c.copy_from_slice.ensures.after)
    (gathering-more IsKnown (bands_at streams) numbers 0 i place k c.loop-number.ins channels c.loop-number-test.true
    c.loop-number.invariant e (omega arith))
