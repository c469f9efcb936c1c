-- Where a reader stands in a text of records. A reader of the contracts has to believe nothing of this: a new reader stands in every
-- text, each window leaves it standing, and what it gives is said by the text alone.
use Rattle.std.specs.Prelude.{◌≡◌, ℕ, ◌+◌, ◌<◌, ◌≤◌, ◌==◌, List, [], ◌∷◌, ◌++◌, length, take, drop, Option, Some, None, IfSome, if◌then◌else◌}
use Rattle.std.specs.List.{AllByRecursion}
use Rattle.quant.specs.Interval.{IsBand, IsInside}
use Rattle.flow_edge.specs.ReadText.{ReadText}
use Rattle.parts.specs.Parts.{FileParts}
use Rattle.plant_streams.specs.Limits.{limits_at, limit_at}
use Rattle.feeds.specs.declared.record.FeedChannel.{FeedChannel}
use Rattle.feeds.specs.declared.record.Record.{Record}
use Rattle.feeds.specs.declared.taken.Taken.{Taken}
use Rattle.feeds.specs.declared.records.Records.{Records}
use Rattle.feeds.specs.Records.{ReadRecords, Entry, entries_of, is_too_long, last_tick, most_bytes, no_more, read_from, read_text, records_in}
use Rattle.feeds.specs.Held.{AreHeldIn, held_of, held_after, nothing_held}
use Rattle.feeds.specs.ReaderOf.{ReaderOf, Feeding}

-- a channel of one of the plant's feeds
pub record IsChannelOf (parts : FileParts) (place : FeedChannel) : Type 0 where
  pub feed : place.feed < length parts.feeds
  pub channel : place.channel < length (limits_at parts place.feed)

-- a record as those of this plant are: its channel is there, and its band lies in the limit
pub record IsRecordFor (parts : FileParts) (one : Record) : Type 0 where
  pub place : IsChannelOf parts one.place
  pub band : IsBand one.band
  pub inside : IsInside one.band (limit_at parts one.place.feed one.place.channel)
  pub tick : one.tick ≤ last_tick

-- What was taken of a text with these bytes, for a plant: no more than they are, and each record takes one of them at least; what is
-- held, and the record ahead, are of the plant's channels and in their limits; and the record ahead is the last one that was read.
pub record IsTakenFor (parts : FileParts) (bytes : List ℕ) (taken : Taken) : Type 0 where
  pub inside : taken.at ≤ length bytes
  pub counted : taken.count ≤ taken.at
  pub feeds : length taken.held ≡ length parts.feeds
  pub held : (f : ℕ) → f < length parts.feeds → AreHeldIn (held_of taken.held f) (limits_at parts f)
  pub ahead : IfSome taken.ahead (IsRecordFor parts)
  pub last : IfSome taken.ahead (λ one. (1 ≤ taken.count) × (one.tick ≡ taken.last))

-- the bytes of a text that was read, and none before
abbrev pub bytes_read : Option ReadText → List ℕ
bytes_read None = []
bytes_read (Some text) = text.bytes

pub record AreRecordsFor (parts : FileParts) (kept : Records) : Type 0 where
  pub few : length (bytes_read kept.text) ≤ most_bytes
  pub taken : IsTakenFor parts (bytes_read kept.text) kept.taken

-- the reader was opened for this plant
pub record IsReaderFor (parts : FileParts) (reader : ReaderOf) : Type 0 where
  pub records : IfSome reader.records (AreRecordsFor parts)

-- nothing was taken
abbrev pub nothing_taken : FileParts → Taken
nothing_taken parts = record { at = 0; count = 0; last = 0; ahead = None; held = nothing_held parts }

-- these lines behind so many records, the last of them of this tick
abbrev pub read_behind : FileParts → ℕ → ℕ → List Entry → ReadRecords
read_behind parts count last entries =
    if count == 0 then read_text parts entries else read_from parts (count + 1) last entries

-- what is still to be read of a text
abbrev pub unread : FileParts → ReadText → Taken → ReadRecords
unread parts text taken = read_behind parts taken.count taken.last (entries_of text.more (drop taken.at text.bytes))

-- records before others
abbrev pub with_front : List Record → ReadRecords → ReadRecords
with_front front rest = record { records = front ++ rest.records; refusal = rest.refusal }

abbrev pub as_list : Option Record → List Record
as_list None = []
as_list (Some one) = one ∷ []

-- what is still to come of a text: the record ahead, and what is still to be read
abbrev pub pending : FileParts → ReadText → Taken → ReadRecords
pending parts text taken = with_front (as_list taken.ahead) (unread parts text taken)

-- Of a text the first records were taken, up to the first whose tick is not before the end of the last window, or all of them, where the
-- run ended with it; what they leave is held; and the text's other records are still to come. Of these the first is the record ahead,
-- once a window was asked for.
pub record HasTaken (parts : FileParts) (text : List ℕ) (up : ReadText) (asked : ℕ) (taken : Taken) : Type 0 where
  pub records : List Record
  pub split : records_in parts text ≡ with_front records (pending parts up taken)
  pub before : asked < parts.ticks → AllByRecursion (λ one. one.tick < asked) records
  pub later : AllByRecursion (λ one. asked ≤ one.tick) (pending parts up taken).records
  pub ends : parts.ticks ≤ asked → pending parts up taken ≡ no_more
  pub ahead : 1 ≤ asked → taken.ahead ≡ None → pending parts up taken ≡ no_more
  pub held : taken.held ≡ held_after (nothing_held parts) records

-- the first bytes of a text
abbrev pub first_part : List ℕ → ReadText
first_part text = record { bytes = take most_bytes text; more = is_too_long text }

-- no window was asked for, and the text was not read yet; or its first bytes were, and the windows have taken their records
abbrev pub StandsAt : FileParts → List ℕ → ℕ → Option (List ℕ) → Option ReadText → Taken → Type 0
StandsAt parts text asked left None taken = (asked ≡ 0) × (left ≡ Some text) × (taken ≡ nothing_taken parts)
StandsAt parts text asked left (Some up) taken =
    (up ≡ first_part text) × (left ≡ Some (drop (most_bytes + 1) text)) × HasTaken parts text up asked taken

abbrev pub StandsIn : FileParts → List ℕ → ℕ → Option (List ℕ) → Option Records → Type 0
StandsIn parts text asked left None = ⊥
StandsIn parts text asked left (Some kept) = StandsAt parts text asked left kept.text kept.taken

-- without records, the reader has none; with a text of records, it stands in it
abbrev pub Stands : FileParts → Option (List ℕ) → Feeding → Type 0
Stands parts None feeding = feeding.reader.records ≡ None
Stands parts (Some text) feeding = StandsIn parts text feeding.reader.asked feeding.left feeding.reader.records
