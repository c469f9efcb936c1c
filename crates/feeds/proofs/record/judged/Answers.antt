-- A place that is found is a channel of the plant.
use Rattle.std.proofs.Common.{◌∙◌, ◌&&◌, int_le, sym, ap}
use Rattle.quant.specs.Interval.{Interval}
use Rattle.feeds.proofs.Accepted.{place-there, in-streams, record-fits}
use Rattle.feeds.proofs.record.judged.Goals as goal

pub limit-requires-clause-stream : goal.limit-requires-clause-stream
limit-requires-clause-stream c =
    let place = place-there c.args.plant.now c.in-Some.written.name.now c.in-Some-place_in.place c.parts.ensures.plant
    (sym c.in-Some-place_in.ensures) in
    in-streams c.args.plant.now c.in-Some-place_in.place.feed c.parts.ensures.plant place.feed

pub limit-requires-clause-channel : goal.limit-requires-clause-channel
limit-requires-clause-channel c =
    (place-there c.args.plant.now c.in-Some.written.name.now c.in-Some-place_in.place c.parts.ensures.plant
    (sym c.in-Some-place_in.ensures)).channel

pub returns-clause-fits : goal.returns-clause-fits
returns-clause-fits c =
    let w = c.in-Some.written in
    record-fits c.args.plant.now c.args.line.now (record { tick = w.tick; name = w.name.now; band = w.band })
    c.in-Some-place_in.place c.parts.ensures.plant c.in-Some.ensures (sym c.in-Some-place_in.ensures)
    (ap (λ (limit : Interval). int_le limit.lo w.band.lo && int_le w.band.hi limit.hi) (sym c.limit.ensures)
    ∙ sym c.lies_in-inside.ensures ∙ c.if-not-inside.false)
