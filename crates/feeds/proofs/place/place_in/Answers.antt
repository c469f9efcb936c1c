-- The place is found by the two parts of the name.
use Rattle.std.proofs.Common.{◌∙◌, List, Some, None, position, bytes_eq, ap}
use Rattle.parts.specs.Parts.{FileParts}
use Rattle.parts.specs.declared.feeds.FeedPart.{FeedPart}
use Rattle.feeds.proofs.Places.{place-by}
use Rattle.feeds.proofs.place.place_in.Goals as goal

pub returns-in-Some : goal.returns-in-Some
returns-in-Some c =
    let cut = c.split_at_dot in
    let feeds = c.as_slice.ensures ∙ ap (λ (p : FileParts). p.feeds) (c.behind-plant.view_is ∙ c.parts.ensures.parts) in
    c.channel_of.ensures
    ∙ place-by c.args.plant.now c.args.name.now cut.result.0.now cut.result.1.now (Some c.in-Some.feed)
    cut.ensures.before cut.ensures.after (c.in-Some.ensures
    ∙ ap (λ (xs : List FeedPart). position (λ feed. bytes_eq feed.name cut.result.0.now) xs) feeds)

pub returns-in-None : goal.returns-in-None
returns-in-None c =
    let cut = c.split_at_dot in
    let feeds = c.as_slice.ensures ∙ ap (λ (p : FileParts). p.feeds) (c.behind-plant.view_is ∙ c.parts.ensures.parts) in
    place-by c.args.plant.now c.args.name.now cut.result.0.now cut.result.1.now None cut.ensures.before cut.ensures.after
    (c.in-None.ensures ∙ ap (λ (xs : List FeedPart). position (λ feed. bytes_eq feed.name cut.result.0.now) xs) feeds)
