-- The names are seen as those of the channels.
use Rattle.std.proofs.Common.{◌∙◌, ap, bytes_eq, List, ℕ}
use Rattle.std.specs.List.{position}
use Rattle.feeds.proofs.Places.{position-map}
use Rattle.feeds.proofs.place.channel_named.Goals as goal

pub returns : goal.returns
returns c =
    c.number_in.ensures
    ∙ position-map (λ other. other.now) (λ channel. bytes_eq channel c.args.name.now) c.channel_names.result.now
    ∙ ap (λ (names : List (List ℕ)). position (λ channel. bytes_eq channel c.args.name.now) names) c.channel_names.ensures
