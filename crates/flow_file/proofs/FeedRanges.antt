-- The ranges of the feeds of a plant text.
use Rattle.std.proofs.Common.{◌≡◌, ℤ, ◌≤◌, Bool, true, false}
use Rattle.std.specs.Prelude.{nat_abs, if◌then◌else◌}
use Rattle.parts.specs.InRange.{from_to, last_piece, most_pieces, most_feeds, IsPiece, IsFeedBand, IsFeedKind, IsFeedPart}
use Rattle.parts.specs.InRange.{AreFeeds}
use Rattle.toml.specs.Data.{as_array}
use Rattle.flow_file.specs.declared.fault.TextFault.TheVariants as fault
use Rattle.flow_file.specs.Read.{Reading}
use Rattle.flow_file.specs.Value.{or_fault, is_in, triple_of, Section, table_of, at_key, no_others, list_of}
use Rattle.flow_file.specs.Feeds.{piece_of, pieces_of, constant_of, feed_band_of, begins_with_array}
use Rattle.flow_file.specs.Feeds.{material_of, signal_of, is_signal_of, feed_of}
use Rattle.flow_file.proofs.Yields.{Yields, Reads, given, anything, after, tested, table, required}
use Rattle.flow_file.proofs.ValueRanges.{holds, is_between, between, band, name}
use Rattle.flow_file.proofs.ListRanges.{list}
use Rattle.flow_file.proofs.KeyRanges.{channels}

is_tick : (tick : ℤ) → is_in (from_to 0 last_piece) tick ≡ true → nat_abs tick ≤ last_piece
is_tick tick passed = (is_between 0 last_piece tick (holds (from_to 0 last_piece) tick passed)).1

piece : Reads IsPiece piece_of
unfolding piece_of
piece place node =
    after (anything (or_fault (as_array node) (fault.WrongType place))) (λ array _.
    after (anything (or_fault (triple_of array) (fault.WrongType place))) (λ numbers _.
    after {P = λ tick. tick ≤ last_piece}
    (tested _ (nat_abs numbers.0) (fault.OutOfRange place) (is_tick numbers.0)) (λ tick tick_is.
    after (between place numbers.1.0 numbers.1.1) (λ band band_is.
    given (tick_is, band_is)))))

-- the band of a feed's channel
pieces : Reads IsFeedBand pieces_of
unfolding pieces_of
pieces place node = after (list piece 1 most_pieces place node) (λ pieces pieces_are. given pieces_are)

constant : Reads IsFeedBand constant_of
constant place node = after (band place node) (λ band band_is. given band_is)

either : {A : Type 0} {P : A → Type 0} (test : Bool) {one other : Reading A} → Yields P one → Yields P other →
    Yields P (if test then one else other)
either true first second = first
either false first second = second

feed_band : Reads IsFeedBand feed_band_of
unfolding feed_band_of
feed_band place node = either (begins_with_array (as_array node)) (pieces place node) (constant place node)

-- a feed of each kind
material : (section : Section) → Yields IsFeedKind (material_of section)
unfolding material_of
material section =
    after (channels (required feed_band) section) (λ bands bands_are.
    after (anything (no_others _ section)) (λ _ _.
    given bands_are))

signal : (section : Section) → Yields IsFeedKind (signal_of section)
unfolding signal_of
signal section =
    after (required feed_band section _) (λ value value_is.
    after (anything (no_others _ section)) (λ _ _.
    given value_is))

feed : (section : Section) → Yields IsFeedPart (feed_of section)
unfolding feed_of
feed section =
    after (required name section _) (λ name name_is.
    after (anything (at_key is_signal_of section _)) (λ is_signal _.
    after (either is_signal (signal section) (material section)) (λ brings brings_is.
    given (record { name = name_is; kind = brings_is }))))

-- the feeds
pub feeds : Reads AreFeeds (list_of (table_of feed_of) 0 most_feeds)
feeds place node = record {
  value = λ feeds e. let all = (list (table feed) 0 most_feeds place node).value feeds e in (all.1, all.2);
}
