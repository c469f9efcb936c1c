-- One feed more has its bands.
use Rattle.std.proofs.Common.{◌∙◌, ◌<◌, List, length, ap, sym, subst, arith}
use Rattle.quant.specs.Interval.{Interval, AllInside}
use Rattle.plant_streams.specs.Limits.{limits_at}
use Rattle.relaxation.specs.Tube.{at}
use Rattle.stepping.proofs.Runs.{tube-is, feed-there, feed-channels, fed-more}
use Rattle.stepping.proofs.ticks.give_feeds.Goals as goal

pub give-requires-clause-stream : goal.give-requires-clause-stream
give-requires-clause-stream c =
    feed-there c.args.plant.now c.loop-feed.row c.loop-feed.feed c.feed_count-feed-end.ensures.plant
    c.loop-feed.invariant.row (omega (arith, c.loop-feed-test.true, c.feed_count-feed-end.ensures.count))

pub give-requires-clause-channels : goal.give-requires-clause-channels
give-requires-clause-channels c =
    let f = c.loop-feed.feed in
    let there : f < length c.args.plant.now.feeds =
    omega (arith, c.loop-feed-test.true, c.feed_count-feed-end.ensures.count) in
    let among : f < length c.args.feeds.now = omega (arith, c.requires.feeds.counted) in
    ap length (c.row.ensures ∙ ap (λ tube. at tube c.args.tick)
    (tube-is c.args.feeds.now f _ among c.index-feeds-feed.is))
    ∙ feed-channels c.args.plant.now c.loop-feed.row c.args.feeds.now c.args.tick f c.feed_count-feed-end.ensures.plant
    c.loop-feed.invariant.row c.requires.feeds there

pub loop-feed-preserved : goal.loop-feed-preserved
loop-feed-preserved c =
    let f = c.loop-feed.feed in
    let there : f < length c.args.plant.now.feeds =
    omega (arith, c.loop-feed-test.true, c.feed_count-feed-end.ensures.count) in
    let among : f < length c.args.feeds.now = omega (arith, c.requires.feeds.counted) in
    let bands = c.row.ensures ∙ ap (λ tube. at tube c.args.tick)
    (tube-is c.args.feeds.now f _ among c.index-feeds-feed.is) in
    fed-more c.args.plant.now c.args.tick f c.args.feeds.now c.args.row.now c.loop-feed.row _ c.row.result.now
    c.loop-feed.invariant
    (feed-there c.args.plant.now c.loop-feed.row f c.feed_count-feed-end.ensures.plant c.loop-feed.invariant.row
    there) bands c.give.ensures.given
    (c.give.ensures.row c.args.plant.now c.loop-feed.invariant.row
    (subst (λ (given : List Interval). AllInside given (limits_at c.args.plant.now f)) (sym bands)
    (c.requires.feeds.inside f there)))
