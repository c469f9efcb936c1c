-- One feed more has its bands.
use Rattle.std.proofs.Common.{◌<◌, [], length, set, ap, subst, ◌∙◌}
use Rattle.std.proofs.lemmas.List.{get_or_default}
use Rattle.parts.specs.Given.{kind_bands}
use Rattle.parts.specs.declared.feeds.FeedPart.{FeedPart}
use Rattle.plant.proofs.Givens.{gives-all, feed-there, have_given-more}
use Rattle.plant.proofs.Lookups.{item-there}
use Rattle.plant.proofs.plant.Plant.give_feeds.Goals as goal

pub give-requires : goal.give-requires
give-requires c =
    let f = c.loop-number.number in
    let now = c.loop-number.streams in
    let at = item-there f _ _ _ c.feed-item.is c.feeds-feed-items.ensures in
    let within = subst (λ fs. f < length fs) c.feeds-feed-items.ensures c.loop-number-test.true in
    ap (λ (x : FeedPart). length (kind_bands c.args.tick x.kind)) at
    ∙ (gives-all c.args.self.now c.args.tick f _ c.args.streams.now now c.sound.ensures c.fed.ensures c.requires
    c.loop-number.invariant within
    ∙ ap length (get_or_default now f [] _
    (feed-there c.args.self.now f _ now c.sound.ensures c.requires c.loop-number.auto.streams within)))

pub loop-number-preserved : goal.loop-number-preserved
loop-number-preserved c =
    let f = c.loop-number.number in
    let at = item-there f _ _ _ c.feed-item.is c.feeds-feed-items.ensures in
    let within = subst (λ fs. f < length fs) c.feeds-feed-items.ensures c.loop-number-test.true in
    have_given-more c.args.self.now c.args.tick f _ c.args.streams.now c.loop-number.streams _ within
    (feed-there c.args.self.now f _ _ c.sound.ensures c.requires c.loop-number.auto.streams within)
    c.loop-number.invariant
    (ap (set c.loop-number.streams f) (c.give.ensures ∙ ap (λ (x : FeedPart). kind_bands c.args.tick x.kind) at))
