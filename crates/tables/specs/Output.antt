-- The output: a header, and for each tick, each stream in order and each of its channels in order one row.
use Rattle.std.specs.Prelude.{ℕ, ◌+◌, Bool, List, [], ◌∷◌, ◌++◌, codes, decimal, if◌then◌else◌, flat_map}
use Rattle.std.specs.Fmt.{signed_decimal}
use Rattle.std.specs.List.{range_with_len}
use Rattle.quant.specs.Interval.{Interval}
use Rattle.tables.specs.Line.{line}

-- how a stream is printed: under its name, with the channels of a signal or of a material stream
pub record Label : Type 0 where
  pub name : List ℕ
  pub signal : Bool

-- the names of the channels
unfoldable pub channels : Bool → List (List ℕ)
channels signal = if signal then codes "value" ∷ [] else codes "flow" ∷ codes "conc" ∷ codes "temp" ∷ []

unfoldable pub header : List ℕ
header = codes "tick,stream,channel,lo,hi\n"

-- the row of one channel
unfoldable pub row : ℕ → List ℕ → List ℕ → Interval → List ℕ
row tick name channel band = line (decimal tick ∷ name ∷ channel ∷ signed_decimal band.lo ∷ signed_decimal band.hi ∷ [])

-- the rows of a stream's channels, each with its band
abbrev pub channel_rows : ℕ → List ℕ → List (List ℕ) → List Interval → List ℕ
channel_rows tick name [] bands = []
channel_rows tick name (channel ∷ rest) [] = []
channel_rows tick name (channel ∷ rest) (band ∷ bands) = row tick name channel band ++ channel_rows tick name rest bands

abbrev pub stream_rows : ℕ → Label → List Interval → List ℕ
stream_rows tick label bands = channel_rows tick label.name (channels label.signal) bands

-- the rows of the streams from number s on at a tick
abbrev pub rows_from : ℕ → (ℕ → List Interval) → ℕ → List Label → List ℕ
rows_from tick bands s [] = []
rows_from tick bands s (label ∷ rest) = stream_rows tick label (bands s) ++ rows_from tick bands (s + 1) rest

abbrev pub tick_rows : List Label → (ℕ → ℕ → List Interval) → ℕ → List ℕ
tick_rows labels bands tick = rows_from tick (bands tick) 0 labels

-- the rows of n ticks from a first one
abbrev pub rows_of : List Label → (ℕ → ℕ → List Interval) → ℕ → ℕ → List ℕ
rows_of labels bands first n = flat_map (tick_rows labels bands) (range_with_len first n)

-- the table of units: their kinds, and their ranks
unfoldable pub rank_header : List ℕ
rank_header = codes "unit,kind,rank\n"

unfoldable pub rank_row : List ℕ → List ℕ → ℕ → List ℕ
rank_row name kind rank = line (name ∷ kind ∷ decimal rank ∷ [])
