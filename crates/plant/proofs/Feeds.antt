-- The bands that a plant's file gives its feeds: in each piece, and so at each tick.
use Rattle.std.proofs.Common.{Bool, true, false, ℕ, List, [], ◌∷◌, ◌≡◌, suc, Ok, arith, le-leb, pos, not, eqb-true}
use Rattle.std.proofs.Common.{map, zero, slice_index_or, ◌<◌, ◌++◌, length}
use Rattle.std.specs.Prelude.{if◌then◌else◌, nat_le, ◌==◌, codes}
use Rattle.std.specs.List.{AllByRecursion}
use Rattle.std.proofs.lemmas.Int.{ints}
use Rattle.quant.specs.Interval.{Interval, IsInside, IsBand, point, AllBands, AllInside}
use Rattle.quant.specs.declared.limits.Limits.{Limits}
use Rattle.parts.specs.Given.{latest, band_at, kind_bands, given_bands}
use Rattle.parts.specs.InRange.{IsPiece, IsFeedBand, IsFeedKind, IsFeedPart, AreInRange}
use Rattle.parts.specs.declared.feeds.Piece.{Piece}
use Rattle.parts.specs.declared.feeds.FeedBand.{FeedBand}
use Rattle.parts.specs.declared.feeds.FeedBand.TheVariants as feed_band
use Rattle.parts.specs.declared.feeds.FeedKind.{FeedKind}
use Rattle.parts.specs.declared.feeds.FeedKind.TheVariants as feed_kind
use Rattle.parts.specs.declared.feeds.FeedPart.{FeedPart}
use Rattle.parts.specs.Parts.{FileParts}
use Rattle.plant_streams.specs.Streams.{is_signal, feed_streams, unit_streams, streams_of}
use Rattle.plant_streams.specs.Limits.{channel_limits, stream_limits, limits_at}
use Rattle.plant_streams.specs.declared.streams.Stream.{Stream}
use Rattle.plant_checks.specs.declared.fault.PlantFault.TheVariants as fault
use Rattle.plant_checks.specs.Checks.{refuse_if, each, is_outside, piece_place, pieces_check, inside_check, Channel}
use Rattle.plant_checks.specs.Checks.{channels_of, feed_pieces_check, feed_inside_check}
use Rattle.plant_checks.proofs.Passed.{passes-both, passes-inside, passes-test, passes-one, passes-three, ArePassed}

-- one of two bands
chosen-inside : (b : Bool) (A B limits : Interval) → IsInside A limits → IsInside B limits →
    IsInside (if b then A else B) limits
chosen-inside true A B limits h k = h
chosen-inside false A B limits h k = k

chosen-band : (b : Bool) (A B : Interval) → IsBand A → IsBand B → IsBand (if b then A else B)
chosen-band true A B h k = h
chosen-band false A B h k = k

-- the latest of the pieces is a band
latest-band : (tick : ℕ) (band : Interval) (pieces : List Piece) → IsBand band → AllByRecursion IsPiece pieces →
    IsBand (latest tick band pieces)
latest-band tick band [] h k = h
latest-band tick band (piece ∷ pieces) h k =
    latest-band tick (if nat_le piece.tick tick then piece.band else band) pieces
    (chosen-band (nat_le piece.tick tick) piece.band band (k.0).1.0 h) k.1

-- and inside the limits, if all that went before are
latest-inside : (f i : ℕ) (key : List ℕ) (limits : Interval) (tick : ℕ) (band : Interval) (pieces : List Piece) →
    IsInside band limits →
    each (λ i piece. refuse_if (is_outside piece.band limits) (fault.FeedOutside (piece_place f key i))) i
    pieces ≡ Ok tt →
    IsInside (latest tick band pieces) limits
latest-inside f i key limits tick band [] h e = h
latest-inside f i key limits tick band (piece ∷ pieces) h e =
    let a = passes-both (refuse_if (is_outside piece.band limits) (fault.FeedOutside (piece_place f key i))) _ e in
    latest-inside f (suc i) key limits tick (if nat_le piece.tick tick then piece.band else band) pieces
    (chosen-inside (nat_le piece.tick tick) piece.band band limits (passes-inside piece.band limits _ a.0) h) a.1

-- a first piece from tick 0 on is not above any tick
from-first : (t tick : ℕ) → t ≡ 0 → nat_le t tick ≡ true
from-first t tick e = le-leb t tick (omega arith)

-- a channel's band at a tick
band-band : (tick : ℕ) (band : FeedBand) → IsFeedBand band → IsBand (band_at tick band)
unfolding band_at
band-band tick (feed_band.Constant band) h = h.0
band-band tick (feed_band.Pieces pieces) h =
    latest-band tick (point (pos 0)) pieces (record { ordered = omega (arith, ints) }) h.2

band-inside : (f : ℕ) (key : List ℕ) (limits : Interval) (tick : ℕ) (band : FeedBand) → IsFeedBand band →
    pieces_check f key band ≡ Ok tt → inside_check f key limits band ≡ Ok tt → IsInside (band_at tick band) limits
unfolding band_at pieces_check inside_check
band-inside f key limits tick (feed_band.Constant band) h g e = passes-inside band limits _ e
band-inside f key limits tick (feed_band.Pieces []) h g e = absurd (omega arith)
band-inside f key limits tick (feed_band.Pieces (piece ∷ pieces)) h g e =
    let a = passes-both (refuse_if (is_outside piece.band limits) (fault.FeedOutside (piece_place f key 0))) _ e in
    let b = passes-both (refuse_if (not (piece.tick == 0)) (fault.FeedPieces (piece_place f key 0))) _ g in
    let first : nat_le piece.tick tick ≡ true =
    from-first piece.tick tick (eqb-true piece.tick 0 (passes-test _ _ b.0)) in
    rw first (latest-inside f 1 key limits tick piece.band pieces (passes-inside piece.band limits _ a.0) a.1)

-- the bands of all channels
abbrev AreFeedBands : List Channel → Type 0
AreFeedBands channels = AllByRecursion (λ channel. IsFeedBand channel.band) channels

channels-band : (tick : ℕ) (channels : List Channel) → AreFeedBands channels →
    AllBands (map (λ channel. band_at tick channel.band) channels)
channels-band tick [] h = tt
channels-band tick (channel ∷ channels) h = (band-band tick channel.band h.0, channels-band tick channels h.1)

channels-inside : (f i tick : ℕ) (channels : List Channel) → AreFeedBands channels →
    each (λ i channel. pieces_check f channel.key channel.band) i channels ≡ Ok tt →
    each (λ i channel. inside_check f channel.key channel.limits channel.band) i channels ≡ Ok tt →
    AllInside (map (λ channel. band_at tick channel.band) channels) (map (λ channel. channel.limits) channels)
channels-inside f i tick [] h g e = tt
channels-inside f i tick (channel ∷ channels) h g e =
    let a = passes-both (pieces_check f channel.key channel.band) _ g in
    let b = passes-both (inside_check f channel.key channel.limits channel.band) _ e in (
      band-inside f channel.key channel.limits tick channel.band h.0 a.0 b.0,
      channels-inside f (suc i) tick channels h.1 a.1 b.1,
    )

-- of a feed
kind-band : (tick : ℕ) (kind : FeedKind) → IsFeedKind kind → AllBands (kind_bands tick kind)
unfolding kind_bands
kind-band tick (feed_kind.Material flow conc temp) h =
    (band-band tick flow h.0, (band-band tick conc h.1, (band-band tick temp h.2, tt)))
kind-band tick (feed_kind.Signal value) h = (band-band tick value h, tt)

kind-inside : (limits : Limits) (f tick : ℕ) (name : List ℕ) (kind : FeedKind) → IsFeedKind kind →
    feed_pieces_check f kind ≡ Ok tt →
    feed_inside_check limits f (record { name = name; kind = kind }) ≡ Ok tt →
    AllInside (kind_bands tick kind) (channel_limits limits (is_signal kind))
unfolding kind_bands channels_of feed_pieces_check feed_inside_check
kind-inside limits f tick name (feed_kind.Material flow conc temp) h g e =
    channels-inside f 0 tick (channels_of limits (feed_kind.Material flow conc temp)) (h.0, (h.1, (h.2, tt)))
    (passes-three (pieces_check f (codes "flow") flow) (pieces_check f (codes "conc") conc)
    (pieces_check f (codes "temp") temp)
    g) e
kind-inside limits f tick name (feed_kind.Signal value) h g e =
    channels-inside f 0 tick (channels_of limits (feed_kind.Signal value)) (h, tt)
    (passes-one (pieces_check f (codes "value") value) g) e

-- of the feed with a number
feeds-band : (tick f : ℕ) (feeds : List FeedPart) → AllByRecursion IsFeedPart feeds →
    AllBands (slice_index_or (map (λ feed. kind_bands tick feed.kind) feeds) f [])
feeds-band tick f [] h = tt
feeds-band tick zero (feed ∷ feeds) h = kind-band tick feed.kind (h.0).kind
feeds-band tick (suc f) (feed ∷ feeds) h = feeds-band tick f feeds h.1

pub given-bands : (parts : FileParts) → AreInRange parts → (tick f : ℕ) → AllBands (given_bands parts tick f)
given-bands parts ranges tick f = feeds-band tick f parts.feeds (ranges.feeds).1

feeds-inside : (parts : FileParts) (i tick f : ℕ) (feeds : List FeedPart) (rest : List Stream) →
    AllByRecursion IsFeedPart feeds →
    each (λ f feed. feed_pieces_check f feed.kind) i feeds ≡ Ok tt →
    each (feed_inside_check parts.limits) i feeds ≡ Ok tt →
    f < length feeds →
    AllInside (slice_index_or (map (λ feed. kind_bands tick feed.kind) feeds) f [])
    (slice_index_or (map (stream_limits parts) (feed_streams i feeds ++ rest)) f [])
feeds-inside parts i tick f [] rest h g e l = absurd (omega arith)
feeds-inside parts i tick zero (feed ∷ feeds) rest h g e l =
    let a =
    passes-both (feed_pieces_check i feed.kind) (each (λ f feed. feed_pieces_check f feed.kind) (suc i) feeds) g in
    let b =
    passes-both (feed_inside_check parts.limits i feed) (each (feed_inside_check parts.limits) (suc i) feeds) e in
    kind-inside parts.limits i tick feed.name feed.kind (h.0).kind a.0 b.0
feeds-inside parts i tick (suc f) (feed ∷ feeds) rest h g e l =
    let a =
    passes-both (feed_pieces_check i feed.kind) (each (λ f feed. feed_pieces_check f feed.kind) (suc i) feeds) g in
    let b =
    passes-both (feed_inside_check parts.limits i feed) (each (feed_inside_check parts.limits) (suc i) feeds) e in
    feeds-inside parts (suc i) tick f feeds rest h.1 a.1 b.1 (omega arith)

pub given-inside : (parts : FileParts) → AreInRange parts → ArePassed parts → (tick f : ℕ) → f < length parts.feeds →
    AllInside (given_bands parts tick f) (limits_at parts f)
unfolding streams_of
given-inside parts ranges passed tick f l =
    feeds-inside parts 0 tick f parts.feeds (unit_streams 0 parts.units) (ranges.feeds).1 passed.pieces passed.insides l
