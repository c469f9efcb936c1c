-- The bands that hold by records: of each feed's channels one, where a record gave it one.
use Rattle.std.specs.Prelude.{ℕ, nat_le, List, [], ◌∷◌, map, slice_index_or, slice_set, Option, Some, None, IfSome, if◌then◌else◌}
use Rattle.quant.specs.Interval.{Interval, IsBand, IsInside}
use Rattle.parts.specs.declared.feeds.FeedKind.{FeedKind}
use Rattle.parts.specs.declared.feeds.FeedKind.TheVariants as feed_kind
use Rattle.parts.specs.Parts.{FileParts}
use Rattle.feeds.specs.declared.record.Record.{Record}

-- none of a feed's channels has one
abbrev pub none_of : FeedKind → List (Option Interval)
none_of (feed_kind.Material flow conc temp) = None ∷ None ∷ None ∷ []
none_of (feed_kind.Signal value) = None ∷ []

abbrev pub nothing_held : FileParts → List (List (Option Interval))
nothing_held parts = map (λ feed. none_of feed.kind) parts.feeds

-- what is held of the feed with this number
abbrev pub held_of : List (List (Option Interval)) → ℕ → List (Option Interval)
held_of held f = slice_index_or held f []

-- a record's band takes the place of what its channel had before
abbrev pub held_with : List (List (Option Interval)) → Record → List (List (Option Interval))
held_with held one =
    slice_set held one.place.feed (slice_set (held_of held one.place.feed) one.place.channel (Some one.band))

-- what is held after these records, and after those of them whose ticks are not above this one
abbrev pub held_after : List (List (Option Interval)) → List Record → List (List (Option Interval))
held_after held [] = held
held_after held (first ∷ rest) = held_after (held_with held first) rest

abbrev pub held_at : List (List (Option Interval)) → List Record → ℕ → List (List (Option Interval))
held_at held [] tick = held
held_at held (first ∷ rest) tick = held_at (if nat_le first.tick tick then held_with held first else held) rest tick

-- the bands of a feed's channels, with those that are held in the place of others
abbrev pub covered : List (Option Interval) → List Interval → List Interval
covered [] bands = bands
covered (one ∷ held) [] = []
covered (None ∷ held) (band ∷ bands) = band ∷ covered held bands
covered (Some other ∷ held) (band ∷ bands) = other ∷ covered held bands

-- of each channel, a band that is held has a number in it and lies in the limit
abbrev pub AreHeldIn : List (Option Interval) → List Interval → Type 0
AreHeldIn [] [] = Unit {0}
AreHeldIn [] (limit ∷ limits) = ⊥
AreHeldIn (one ∷ held) [] = ⊥
AreHeldIn (one ∷ held) (limit ∷ limits) = IfSome one (λ band. IsBand band × IsInside band limit) × AreHeldIn held limits
