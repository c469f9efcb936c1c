-- Names of feeds and of their channels.
use Rattle.std.proofs.Common.{◌≡◌, ◌∙◌, ℕ, ◌<◌, Bool, false, List, [], ◌∷◌, length, map, get_or, Option, bytes_eq, sym, ap, refl, arith}
use Rattle.std.specs.List.{position, position_or_len, before_first, after_first}
use Rattle.std.proofs.lemmas.List.{length-map}
use Rattle.plant_names.specs.Name.{is_dot}
use Rattle.parts.specs.Parts.{FileParts}
use Rattle.plant_streams.specs.declared.streams.Stream.{Stream}
use Rattle.plant_streams.specs.Streams.{streams_of}
use Rattle.plant.proofs.Lookups.{at-map}
use Rattle.tables.specs.Output.{channels}
use Rattle.feeds.specs.Records.{feed_channels, channel_of, place_in}

-- the first of some items by what they are seen as
or_len-map : {X Y : Type 0} (f : X → Y) (p : Y → Bool) (xs : List X) →
    position_or_len (λ x. p (f x)) xs ≡ position_or_len p (map f xs)
or_len-map f p [] = refl
or_len-map f p (x ∷ xs) = let e = or_len-map f p xs in grind (arith, e)

pub position-map : {X Y : Type 0} (f : X → Y) (p : Y → Bool) (xs : List X) →
    position (λ x. p (f x)) xs ≡ position p (map f xs)
position-map f p xs =
    let e = or_len-map f p xs in
    let l = length-map xs f in
    grind (arith, e, l)

-- what a name names, by the feed that stands before its dot
pub place-by : (parts : FileParts) (name before after : List ℕ) (found : Option ℕ) → before ≡ before_first is_dot name →
    after ≡ after_first is_dot name → found ≡ position (λ feed. bytes_eq feed.name before) parts.feeds →
    channel_of parts found after ≡ place_in parts name
unfolding place_in
place-by parts name before after found b a e =
    ap (λ (o : Option ℕ). channel_of parts o after) e
    ∙ ap (λ (rest : List ℕ). channel_of parts (position (λ feed. bytes_eq feed.name before) parts.feeds) rest) a
    ∙ ap (λ (front : List ℕ). channel_of parts (position (λ feed. bytes_eq feed.name front) parts.feeds)
    (after_first is_dot name)) b

-- the channels of a feed's stream
pub channels-at : (parts : FileParts) (f : ℕ) (x : Stream) (list : List Stream) → list ≡ streams_of parts →
    f < length (streams_of parts) → channels (get_or list f x).signal ≡ feed_channels parts f
channels-at parts f x list same l =
    ap (λ (streams : List Stream). channels (get_or streams f x).signal) same
    ∙ ap channels (sym (at-map (λ (s : Stream). s.signal) (streams_of parts) f x false l))

-- a name among the channels of a feed's stream
pub found-at : (parts : FileParts) (f : ℕ) (x : Stream) (list : List Stream) (name : List ℕ) → list ≡ streams_of parts →
    f < length (streams_of parts) →
    position (λ channel. bytes_eq channel name) (channels (get_or list f x).signal)
    ≡ position (λ channel. bytes_eq channel name) (feed_channels parts f)
found-at parts f x list name same l =
    ap (λ (names : List (List ℕ)). position (λ channel. bytes_eq channel name) names) (channels-at parts f x list same l)
