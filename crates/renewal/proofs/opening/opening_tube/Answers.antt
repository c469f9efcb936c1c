-- The stream that stands at the place opens with the tube of its feed, or with the limits of its channels.
use Rattle.std.proofs.Common.{◌≡◌, ◌<◌, ◌∙◌, ℕ, [], length, replicate, ap, sym, subst, arith}
use Rattle.std.specs.Prelude.{IfOk}
use Rattle.std.proofs.lemmas.List.{get_or_default}
use Rattle.relaxation.specs.Tube.{Tube}
use Rattle.plant_streams.specs.Streams.{streams_of}
use Rattle.plant_streams.specs.Limits.{stream_limits}
use Rattle.parts.specs.Parts.{FileParts}
use Rattle.plant.proofs.Lookups.{item-there}
use Rattle.renewal.specs.Plan.{fed_by}
use Rattle.renewal.proofs.Openings.{found-source, found-limits, feed-below, opening-feed, opening-port}
use Rattle.renewal.proofs.opening.opening_tube.Goals as goal

pub bounds-as_slice-feed : goal.bounds-as_slice-feed
bounds-as_slice-feed c =
    let plan = c.args.plan.now in
    let streams = c.streams.ensures ∙ ap streams_of c.plant.ensures.plant in
    let e = found-source plan.parts c.args.stream c.index-streams-stream.result _ _ c.requires
    c.index-streams-stream.is streams c.in-Feed.is in
    let below = feed-below plan c.args.stream c.in-Feed.feed c.plant.ensures.plan c.requires e in
    omega (arith, ap length (c.as_slice.ensures ∙ c.feeds.ensures), c.plant.ensures.plan.feeds, below)

pub returns-in-Feed : goal.returns-in-Feed
returns-in-Feed c =
    let plan = c.args.plan.now in
    let f = c.in-Feed.feed in
    let streams = c.streams.ensures ∙ ap streams_of c.plant.ensures.plant in
    let e = found-source plan.parts c.args.stream c.index-streams-stream.result _ _ c.requires
    c.index-streams-stream.is streams c.in-Feed.is in
    let below = feed-below plan c.args.stream f c.plant.ensures.plan c.requires e in
    let there : f < length plan.feeds = omega (arith, c.plant.ensures.plan.feeds, below) in
    let found : c.index-as_slice-feed.result ≡ fed_by plan f =
    item-there f c.index-as_slice-feed.result _ plan.feeds c.index-as_slice-feed.is
    (c.as_slice.ensures ∙ c.feeds.ensures)
    ∙ get_or_default plan.feeds f _ [] there in
    subst (λ (opening : Tube). IfOk c.copied.result (λ tube. tube ≡ opening))
    (found ∙ sym (opening-feed plan c.args.stream f e)) c.copied.ensures

pub returns-in_ok-limits-in-Port : goal.returns-in_ok-limits-in-Port
returns-in_ok-limits-in-Port c =
    let plan = c.args.plan.now in
    let stream = c.index-streams-stream.result in
    let streams = c.streams.ensures ∙ ap streams_of c.plant.ensures.plant in
    let e = found-source plan.parts c.args.stream stream _ _ c.requires c.index-streams-stream.is streams
    c.in-Port.is in
    let limits = c.as_slice-in-Port.ensures ∙ c.in_ok-limits-in-Port.ensures
    ∙ ap (λ (parts : FileParts). stream_limits parts stream) c.plant-in-Port.ensures.plant
    ∙ found-limits plan.parts c.args.stream stream _ c.requires c.index-streams-stream.is streams in
    subst (λ (opening : Tube). IfOk c.filled.result (λ tube. tube ≡ opening))
    (ap (λ (n : ℕ). replicate n c.as_slice-in-Port.result.now) c.ticks.ensures ∙ ap (replicate plan.ticks) limits
    ∙ sym (opening-port plan c.in-Port.unit c.in-Port.port c.args.stream c.plant.ensures.plan (c.requires, e)))
    c.filled.ensures
