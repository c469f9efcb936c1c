-- The feeds of a plant text.
use Rattle.std.specs.Prelude.{nat_abs, Bool, true, false, if◌then◌else◌}
use Rattle.std.specs.Prelude.{[], ◌∷◌, bytes_eq, codes, Option, Some, None, is_some, Ok}
use Rattle.parts.specs.declared.feeds.Piece.{Piece}
use Rattle.parts.specs.declared.feeds.FeedBand.{FeedBand}
use Rattle.parts.specs.declared.feeds.FeedBand.TheVariants as feed_band
use Rattle.parts.specs.declared.feeds.FeedKind.{FeedKind}
use Rattle.parts.specs.declared.feeds.FeedKind.TheVariants as feed_kind
use Rattle.parts.specs.declared.feeds.FeedPart.{FeedPart}
use Rattle.parts.specs.InRange.{from_to, last_piece, most_pieces}
use Rattle.toml.specs.Data.{Data, Items, item, as_array}
use Rattle.flow_file.specs.declared.fault.TextFault.TheVariants as fault
use Rattle.flow_file.specs.Read.{Reading, ◌>>=◌}
use Rattle.flow_file.specs.Value.{Bytes, or_fault, when, Section}
use Rattle.flow_file.specs.Value.{channels_of}
use Rattle.flow_file.specs.Value.{at_key, no_others, is_in, triple_of, band_between, band_of, word_of, name_of, list_of}

-- a piece: its tick, and the ends of its band
unfoldable pub piece_of : Bytes → Data → Reading Piece
piece_of place node = do
  array ← or_fault (as_array node) (fault.WrongType place)
  numbers ← or_fault (triple_of array) (fault.WrongType place)
  tick ← when (is_in (from_to 0 last_piece) numbers.0) (nat_abs numbers.0) (fault.OutOfRange place)
  band ← band_between place numbers.1.0 numbers.1.1
  Ok (record { tick = tick; band = band })

-- an array whose first value is an array is read as pieces
abbrev pub is_array : Data → Bool
is_array node = is_some (as_array node)

abbrev pub begins_with_array : Option Items → Bool
begins_with_array (Some (item first rest)) = is_array first
begins_with_array _ = false

unfoldable pub pieces_of : Bytes → Data → Reading FeedBand
pieces_of place node = do
  pieces ← list_of piece_of 1 most_pieces place node
  Ok (feed_band.Pieces pieces)

abbrev pub constant_of : Bytes → Data → Reading FeedBand
constant_of place node = do
  band ← band_of place node
  Ok (feed_band.Constant band)

unfoldable pub feed_band_of : Bytes → Data → Reading FeedBand
feed_band_of place node = if begins_with_array (as_array node) then pieces_of place node else constant_of place node

-- what a material feed brings
unfoldable pub material_of : Section → Reading FeedKind
material_of section = do
  bands ← channels_of (at_key feed_band_of) section
  others ← no_others (codes "name" ∷ codes "kind" ∷ codes "flow" ∷ codes "conc" ∷ codes "temp" ∷ []) section
  Ok (feed_kind.Material bands.flow bands.conc bands.temp)

-- what a signal feed brings
unfoldable pub signal_of : Section → Reading FeedKind
signal_of section = do
  value ← at_key feed_band_of section (codes "value")
  others ← no_others (codes "name" ∷ codes "kind" ∷ codes "value" ∷ []) section
  Ok (feed_kind.Signal value)

abbrev pub kind_of : Section → Bool → Reading FeedKind
kind_of section signal = if signal then signal_of section else material_of section

-- whether a feed is a signal, by the name of its kind
abbrev pub signal_named : Bytes → Option Bool
signal_named text =
    if bytes_eq text (codes "material") then Some false
    else if bytes_eq text (codes "signal") then Some true
    else None

abbrev pub is_signal_of : Bytes → Data → Reading Bool
is_signal_of = word_of signal_named

-- a feed: its name, its kind, and the keys of its kind
unfoldable pub feed_of : Section → Reading FeedPart
feed_of section = do
  name ← at_key name_of section (codes "name")
  signal ← at_key is_signal_of section (codes "kind")
  brings ← kind_of section signal
  Ok (record { name = name; kind = brings })
