-- The stream's channels are those of the feed.
use Rattle.std.proofs.Common.{◌∙◌, ◌<◌, length, get_or, bytes_eq, ap, sym, arith}
use Rattle.tables.specs.Output.{channels}
use Rattle.feeds.specs.Records.{channel_found}
use Rattle.feeds.proofs.Accepted.{below, in-streams, channels-counted, small-channel}
use Rattle.feeds.proofs.Places.{channels-at, found-at}
use Rattle.feeds.proofs.place.channel_of.Goals as goal

pub bounds-streams-feed : goal.bounds-streams-feed
bounds-streams-feed c =
    let there = in-streams c.args.plant.now c.args.feed c.parts.ensures.plant c.requires in
    omega (arith, ap length c.streams.ensures)

pub bounds-streams-feed-2 : goal.bounds-streams-feed-2
bounds-streams-feed-2 c =
    let there = in-streams c.args.plant.now c.args.feed c.parts.ensures.plant c.requires in
    omega (arith, ap length c.streams.ensures)

pub overflow_cast-result-in-Some : goal.overflow_cast-result-in-Some
overflow_cast-result-in-Some c =
    let parts = c.args.plant.now in
    let plant = c.parts.ensures.plant in
    let there = in-streams parts c.args.feed plant c.requires in
    let names = channels-at parts c.args.feed c.index-streams-feed.result c.streams.result.now c.streams.ensures there in
    let inside : c.in-Some.channel < length (channels (get_or c.streams.result.now c.args.feed c.index-streams-feed.result).signal) = below (λ channel. bytes_eq channel c.args.name.now)
    (channels (get_or c.streams.result.now c.args.feed c.index-streams-feed.result).signal) c.in-Some.channel (sym c.in-Some.ensures) in
    let small = small-channel parts c.args.feed c.in-Some.channel plant c.requires
    (omega (arith, ap length names, channels-counted parts c.args.feed plant c.requires)) in
    omega arith

pub returns-in-Some : goal.returns-in-Some
returns-in-Some c =
    let there = in-streams c.args.plant.now c.args.feed c.parts.ensures.plant c.requires in
    ap (channel_found c.args.feed)
    (c.in-Some.ensures ∙ found-at c.args.plant.now c.args.feed _ _ c.args.name.now c.streams.ensures there)

pub returns-in-None : goal.returns-in-None
returns-in-None c =
    let there = in-streams c.args.plant.now c.args.feed c.parts.ensures.plant c.requires in
    ap (channel_found c.args.feed)
    (c.in-None.ensures ∙ found-at c.args.plant.now c.args.feed _ _ c.args.name.now c.streams.ensures there)
