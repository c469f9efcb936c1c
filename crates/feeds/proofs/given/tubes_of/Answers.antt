-- One feed more has its tube.
use Rattle.std.proofs.Common.{◌≡◌, ◌∙◌, ℕ, length, map, ap, arith}
use Rattle.std.specs.List.{range_with_len}
use Rattle.parts.specs.Parts.{FileParts}
use Rattle.feeds.proofs.Ticks.{feed_tube, tubes-more}
use Rattle.feeds.proofs.given.tubes_of.Goals as goal

pub loop-feed-preserved : goal.loop-feed-preserved
loop-feed-preserved c =
    c.in_ok-push.ensures.items
    ∙ tubes-more c.args.plant.now c.args.first c.args.ticks c.loop-feed.feed-index c.feed-item.result _
    c.in_ok-given_tube.field-0 c.loop-feed.tubes.items
    (c.as_slice-feeds.ensures ∙ ap (λ (p : FileParts). p.feeds) (c.behind-plant.view_is ∙ c.parts.ensures.parts))
    c.loop-feed-test.true c.feed-item.is c.in_ok-given_tube.ensures c.loop-feed.invariant

pub returns : goal.returns
returns c =
    let parts = c.args.plant.now in
    let feeds = c.as_slice-feeds.ensures
    ∙ ap (λ (p : FileParts). p.feeds) (c.behind-plant.view_is ∙ c.parts.ensures.parts) in
    let all : c.loop-feed.feed-index ≡ length parts.feeds =
    omega (arith, ap length feeds, c.loop-feed-test.false, c.loop-feed.auto.feed-index-end) in
    c.loop-feed.invariant
    ∙ ap (λ (n : ℕ). map (feed_tube parts c.args.first c.args.ticks) (range_with_len 0 n)) all
