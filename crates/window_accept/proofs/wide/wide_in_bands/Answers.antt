-- A stream's row is searched, unless it is fed.
use Rattle.std.proofs.Common.{◌∙◌, ℕ, length, sym, ap, subst, arith, rules, Option, Some, None, SFits, w64}
use Rattle.std.proofs.lemmas.Int.{ints}
use Rattle.quant.proofs.Calls.{inside-length}
use Rattle.plant_streams.specs.declared.streams.Stream.{Stream}
use Rattle.plant_streams.specs.declared.streams.StreamSource.TheVariants as source
use Rattle.plant_streams.specs.Limits.{limits_at}
use Rattle.relax_core.proofs.Turning.{origin-read}
use Rattle.window_accept.specs.Wide.{asked_of}
use Rattle.window_accept.specs.Searching.{FindsChannel, FindsInStream}
use Rattle.relax_core.specs.Stepping.{IsOutputOf}
use Rattle.window_accept.specs.declared.wide.TooWide.{TooWide}
use Rattle.window_accept.proofs.Streams.{signal-of, asked-by, limits-counted, row-wide}
use Rattle.window_accept.proofs.Places.{unfed, none-in-stream, found-in-stream, same-place}
use Rattle.window_accept.proofs.wide.wide_in_bands.Goals as goal

pub returns-in-Feed : goal.returns-in-Feed
returns-in-Feed c bands same =
    let x = c.index-streams-stream.result in
    unfed _ _ _ _ c.in-Feed.feed (origin-read c.args.plant.now c.streams.result.now c.args.stream x (source.Feed c.in-Feed.feed)
    c.requires.stream c.streams.ensures (sym (ap (λ (y : Stream). y.source) c.index-streams-stream.is) ∙ c.in-Feed.is))

pub wide_channel-requires-clause-counted : goal.wide_channel-requires-clause-counted
wide_channel-requires-clause-counted c =
    let x = c.index-streams-stream.result in
    inside-length c.args.row.now (limits_at c.args.plant.now c.args.stream) c.requires.limits
    ∙ (limits-counted c.args.plant.now c.behind-plant.inside.width c.streams.result.now c.args.stream x c.requires.stream
    c.streams.ensures ∙ ap (λ (y : Stream). length (asked_of c.behind-plant.inside.width y.signal)) (sym c.index-streams-stream.is))

pub wide_channel-requires-clause-wide : goal.wide_channel-requires-clause-wide
wide_channel-requires-clause-wide c =
    row-wide c.args.plant.now c.args.stream c.index-streams-stream.result c.args.row.now c.parts.ensures.plant c.requires.stream
    c.requires.limits

pub returns-in_err-found : goal.returns-in_err-found
returns-in_err-found c bands same =
    let x = c.index-streams-stream.result in
    let parts = c.args.plant.now in
    let signal = signal-of parts c.streams.result.now c.args.stream x c.index-streams-stream.is c.requires.stream
    c.streams.ensures in
    let none : FindsChannel None (asked_of parts.width x.signal) c.args.row.now =
    asked-by None _ parts x.signal _ (c.behind-plant.view_is ∙ c.parts.ensures.parts) c.in_err-found.ensures in
    subst (λ (r : Option TooWide). FindsInStream r parts bands c.args.tick c.args.stream) (sym c.from_residual.ensures)
    (none-in-stream parts bands c.args.tick c.args.stream x.signal c.args.row.now signal (sym same) none)

pub returns : goal.returns
returns c bands same =
    let x = c.index-streams-stream.result in
    let parts = c.args.plant.now in
    let signal = signal-of parts c.streams.result.now c.args.stream x c.index-streams-stream.is c.requires.stream
    c.streams.ensures in
    let found = c.in_ok-found.found in
    let first : FindsChannel (Some found) (asked_of parts.width x.signal) c.args.row.now =
    asked-by (Some found) _ parts x.signal _ (c.behind-plant.view_is ∙ c.parts.ensures.parts) c.in_ok-found.ensures in
    let t : ℕ = c.args.tick in
    let given = subst IsOutputOf (sym (origin-read parts c.streams.result.now c.args.stream x
    (source.Port c.in_default.field-0 c.in_default.field-1) c.requires.stream c.streams.ensures
    (sym (ap (λ (y : Stream). y.source) c.index-streams-stream.is) ∙ c.in_default.is))) tt in
    let wide_fits : SFits w64 found.width = search rules in
    let limit_fits : SFits w64 found.limit = search rules in
    same-place parts bands t t c.args.stream _ found.channel found.width found.limit _ _
    (omega arith) (omega (arith, ints)) (omega (arith, ints))
    (found-in-stream parts bands t c.args.stream x.signal c.args.row.now signal (sym same) found c.requires.stream given first)
