-- Feed records: a text whose lines give bands to the channels of a plant's feeds, each from a tick on.
use Rattle.std.specs.Prelude.{ℕ, ◌+◌, ◌&&◌, nat_le, nat_lt, nat_abs, ℤ, int_le, Bool, false, List, [], ◌∷◌, ◌++◌, length, map, take, codes, bytes_eq, slice_index_or, Option, Some, None, Result, Ok, Err, if◌then◌else◌}
use Rattle.std.specs.List.{position, before_first, after_first}
use Rattle.quant.specs.Interval.{Interval}
use Rattle.plant_names.specs.Name.{is_dot}
use Rattle.lines.specs.Lines.{lines_of, ended_lines_of, fields_of}
use Rattle.lines.specs.Numbers.{number_in}
use Rattle.parts.specs.Parts.{FileParts}
use Rattle.plant_streams.specs.Streams.{streams_of}
use Rattle.plant_streams.specs.Limits.{limit_at}
use Rattle.tables.specs.Output.{channels}
use Rattle.feeds.specs.declared.record.FeedChannel.{FeedChannel}
use Rattle.feeds.specs.declared.record.Record.{Record}
use Rattle.feeds.specs.declared.reader.FeedFault.{FeedFault}
use Rattle.feeds.specs.declared.reader.FeedFault.TheVariants.{BadRecord, UnknownPlace, Order, Outside, TooLong}

-- the most bytes of a text of records, and the greatest tick that one has
unfoldable pub most_bytes : ℕ
most_bytes = 16777216

unfoldable pub last_tick : ℕ
last_tick = 1000000000

-- the first line
unfoldable pub record_header : List ℕ
record_header = codes "tick,place,lo,hi"

-- what a line writes: a tick, the name of a place, and a band
pub record Written : Type 0 where
  pub tick : ℕ
  pub name : List ℕ
  pub band : Interval

-- the tick that a field writes: 1 to 10 digits, and at most the greatest tick
abbrev pub small_tick : Option ℤ → Option ℕ
small_tick None = None
small_tick (Some number) = if nat_le (nat_abs number) last_tick then Some (nat_abs number) else None

abbrev pub tick_in : List ℕ → Option ℕ
tick_in field = small_tick (number_in 10 false field)

-- an end of a band that a field writes: 1 to 18 digits, after one minus where it is below zero
abbrev pub end_in : List ℕ → Option ℤ
end_in field = number_in 18 Bool.true field

-- the band between two ends, the lower one first
abbrev pub band_in : Option ℤ → Option ℤ → Option Interval
band_in (Some lo) (Some hi) = if int_le lo hi then Some (record { lo = lo; hi = hi }) else None
band_in lo hi = None

abbrev pub written_as : Option ℕ → List ℕ → Option Interval → Option Written
written_as (Some tick) name (Some band) = Some (record { tick = tick; name = name; band = band })
written_as tick name band = None

-- four fields: `tick,place,lo,hi`
abbrev pub written_by : List (List ℕ) → Option Written
written_by (tick ∷ name ∷ lo ∷ hi ∷ []) = written_as (tick_in tick) name (band_in (end_in lo) (end_in hi))
written_by fields = None

unfoldable pub written_in : List ℕ → Option Written
written_in line = written_by (fields_of line)

-- the channels of a feed by its number
abbrev pub feed_channels : FileParts → ℕ → List (List ℕ)
feed_channels parts feed = channels (slice_index_or (map (λ stream. stream.signal) (streams_of parts)) feed false)

abbrev pub channel_found : ℕ → Option ℕ → Option FeedChannel
channel_found feed None = None
channel_found feed (Some channel) = Some (record { feed = feed; channel = channel })

-- of a feed that is found, the channel with this name
abbrev pub channel_of : FileParts → Option ℕ → List ℕ → Option FeedChannel
channel_of parts None name = None
channel_of parts (Some feed) name =
    channel_found feed (position (λ channel. bytes_eq channel name) (feed_channels parts feed))

-- the channel that a name names: that of a feed, a dot, and that of one of its channels
unfoldable pub place_in : FileParts → List ℕ → Option FeedChannel
place_in parts name = channel_of parts
    (position (λ feed. bytes_eq feed.name (before_first is_dot name)) parts.feeds) (after_first is_dot name)

-- What a record says to a channel that it names, after one of this tick: its number goes with its refusal. Its tick is not before that
-- of the record before it, and its band lies inside the limits that the plant has for the channel.
abbrev pub judged_at : FileParts → ℕ → ℕ → Written → Option FeedChannel → Result Record FeedFault
judged_at parts at before written None = Err (UnknownPlace at)
judged_at parts at before written (Some place) =
    if nat_lt written.tick before then Err (Order at)
    else if int_le (limit_at parts place.feed place.channel).lo written.band.lo
    && int_le written.band.hi (limit_at parts place.feed place.channel).hi
    then Ok (record { tick = written.tick; place = place; band = written.band })
    else Err (Outside at)

abbrev pub judged_as : FileParts → ℕ → ℕ → Option Written → Result Record FeedFault
judged_as parts at before None = Err (BadRecord at)
judged_as parts at before (Some written) = judged_at parts at before written (place_in parts written.name)

-- the record that a line is, or its first refusal
abbrev pub judged : FileParts → ℕ → ℕ → List ℕ → Result Record FeedFault
judged parts at before line = judged_as parts at before (written_in line)

-- the records of a text up to the first that is refused, and that refusal
pub record ReadRecords : Type 0 where
  pub records : List Record
  pub refusal : Option FeedFault

-- there is no further record
abbrev pub no_more : ReadRecords
no_more = record { records = []; refusal = None }

abbrev pub refused_by : FeedFault → ReadRecords
refused_by fault = record { records = []; refusal = Some fault }

-- what is a line of a text of records, and what stands for the line that its greatest length cuts off
pub data Entry : Type 0 where
  whole : List ℕ → Entry
  cut_off : Entry

-- the lines of a text; of one that is too long, those that are ended inside its greatest length, and the one that is cut off
abbrev pub entries_of : Bool → List ℕ → List Entry
entries_of Bool.true bytes = map whole (ended_lines_of bytes) ++ cut_off ∷ []
entries_of Bool.false bytes = map whole (lines_of bytes)

abbrev pub is_too_long : List ℕ → Bool
is_too_long text = nat_lt most_bytes (length text)

abbrev pub record_entries : List ℕ → List Entry
record_entries text = entries_of (is_too_long text) (take most_bytes text)

-- what is read with a record and after it, or with a refusal
abbrev pub read_on : Result Record FeedFault → (Record → ReadRecords) → ReadRecords
read_on (Ok first) after = record { records = first ∷ (after first).records; refusal = (after first).refusal }
read_on (Err fault) after = refused_by fault

-- the records of these lines, of which the first has this number and follows a record of this tick
abbrev pub read_from : FileParts → ℕ → ℕ → List Entry → ReadRecords
read_from parts at before [] = no_more
read_from parts at before (cut_off ∷ rest) = refused_by (TooLong at)
read_from parts at before (whole line ∷ rest) =
    read_on (judged parts at before line) (λ first. read_from parts (at + 1) first.tick rest)

-- the records of a text behind its header, the first record
abbrev pub read_text : FileParts → List Entry → ReadRecords
read_text parts [] = refused_by (BadRecord 1)
read_text parts (cut_off ∷ rest) = refused_by (TooLong 1)
read_text file (whole line ∷ rest) =
    if bytes_eq line record_header then read_from file 2 0 rest else refused_by (BadRecord 1)

abbrev pub records_in : FileParts → List ℕ → ReadRecords
records_in parts text = read_text parts (record_entries text)
