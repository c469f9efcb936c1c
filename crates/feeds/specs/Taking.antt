-- Words of the proofs: a reader of the contracts needs none of them.
-- How records are taken from a text, one after another.
use Rattle.std.specs.Prelude.{◌≡◌, ℕ, ◌+◌, ◌<◌, ◌≤◌, ◌≢◌, Bool, true, false, List, [], ◌∷◌, length, drop, Option, Some, None, IfSome, IsOk, Result, Ok, Err}
use Rattle.std.specs.List.{AllByRecursion}
use Rattle.quant.specs.Interval.{Interval}
use Rattle.flow_edge.specs.ReadText.{ReadText}
use Rattle.parts.specs.Parts.{FileParts}
use Rattle.feeds.specs.declared.record.Record.{Record}
use Rattle.feeds.specs.declared.next_line.NextLine.{NextLine}
use Rattle.feeds.specs.declared.next_line.NextLine.TheVariants as next
use Rattle.feeds.specs.declared.taken.Taken.{Taken}
use Rattle.feeds.specs.declared.reader.FeedFault.{FeedFault}
use Rattle.feeds.specs.declared.reader.FeedFault.TheVariants.{ReadFault}
use Rattle.feeds.specs.Records.{ReadRecords, Entry, whole, cut_off, entries_of, no_more, refused_by, read_from}
use Rattle.feeds.specs.Held.{held_of, held_after}
use Rattle.feeds.specs.Standing.{IsRecordFor, IsTakenFor, as_list, unread, pending, with_front}

-- the lines that are left of a text at a place
abbrev pub entries_at : ReadText → ℕ → List Entry
entries_at text from = entries_of text.more (drop from text.bytes)

-- the first of them: a line and the place behind it, or what the text's greatest length cuts off, or none
abbrev pub FindsNext : ReadText → ℕ → Option NextLine → Type 0
FindsNext text from None = entries_at text from ≡ []
FindsNext text from (Some (next.Whole line after)) =
    (entries_at text from ≡ whole line.now ∷ entries_at text after) × (from < after) × (after ≤ length text.bytes)
FindsNext text from (Some next.CutOff) = entries_at text from ≡ cut_off ∷ []

-- what is to be read of a text behind its header
abbrev pub behind : FileParts → ReadText → Taken → ReadRecords
behind parts text taken = read_from parts (taken.count + 1) taken.last (entries_at text taken.at)

-- the header was read, and stands at its place among the records that were counted
pub record HasHeader (parts : FileParts) (text : ReadText) (old read : Taken) : Type 0 where
  pub passes : unread parts text old ≡ behind parts text read
  pub some : 1 ≤ read.count
  pub counted : read.count ≤ read.at
  pub further : old.at ≤ read.at
  pub inside : read.at ≤ length text.bytes

-- or what stands in its place is refused
abbrev pub PassesHeader : FileParts → ReadText → Taken → Taken → Result Unit FeedFault → Type 0
PassesHeader parts text old read (Ok done) = HasHeader parts text old read
PassesHeader parts text old read (Err fault) =
    (unread parts text old ≡ refused_by fault) × (fault ≢ ReadFault) × (read ≡ old)

-- what was taken with one record more, behind which the text goes on at this place
abbrev pub taken_after : Taken → ℕ → Record → Taken
taken_after old after one =
    record { at = after; count = old.count + 1; last = one.tick; ahead = old.ahead; held = old.held }

-- the record that was read, after which the others are still to be read
pub record ReadsRecord (parts : FileParts) (text : ReadText) (coming : ReadRecords) (read : Taken) (one : Record) : Type 0 where
  pub next : coming ≡ with_front (one ∷ []) (unread parts text read)
  pub fits : IsRecordFor parts one
  pub last : (1 ≤ read.count) × (one.tick ≡ read.last)

-- what reading the next of the records to come answers: it, or that there is none, or the first refusal
abbrev pub AnswersNext : FileParts → ReadText → ReadRecords → Taken → Result (Option Record) FeedFault → Type 0
AnswersNext parts text coming read (Ok None) = (coming ≡ no_more) × (unread parts text read ≡ no_more)
AnswersNext parts text coming read (Ok (Some one)) = ReadsRecord parts text coming read one
AnswersNext parts text coming read (Err fault) = (coming ≡ refused_by fault) × (fault ≢ ReadFault)

-- and what stays
pub record ReadsNext (parts : FileParts) (text : ReadText) (coming : ReadRecords) (old read : Taken)
    (answer : Result (Option Record) FeedFault) : Type 0 where
  pub answers : AnswersNext parts text coming read answer
  pub taken : IsTakenFor parts text.bytes read
  pub held : read.held ≡ old.held
  pub ahead : read.ahead ≡ None
  pub further : answer ≢ Ok None → IsOk answer → old.at < read.at

-- records were taken that have ticks before this one, and are held
pub record Takes (parts : FileParts) (text : ReadText) (end : ℕ) (old read : Taken) : Type 0 where
  pub records : List Record
  pub split : pending parts text old ≡ with_front records (pending parts text read)
  pub before : AllByRecursion (λ one. one.tick < end) records
  pub held : read.held ≡ held_after old.held records

-- all that are still to come have this tick or a later one, and where none was met there are none
pub record HasCome (parts : FileParts) (text : ReadText) (end : ℕ) (read : Taken) : Type 0 where
  pub later : AllByRecursion (λ one. end ≤ one.tick) (pending parts text read).records
  pub ends : read.ahead ≡ None → pending parts text read ≡ no_more

-- a record is refused, before which all have ticks before this one
pub record MeetsRefusal (parts : FileParts) (text : ReadText) (end : ℕ) (old : Taken) (fault : FeedFault) : Type 0 where
  pub refusal : (pending parts text old).refusal ≡ Some fault
  pub before : AllByRecursion (λ one. one.tick < end) (pending parts text old).records
  pub other : fault ≢ ReadFault

-- there is a place for a record
pub record HasPlaceFor (held : List (List (Option Interval))) (one : Record) : Type 0 where
  pub feed : one.place.feed < length held
  pub channel : one.place.channel < length (held_of held one.place.feed)

-- whether the record ahead is held, where it has a tick before this one
abbrev pub HoldsAhead : ℕ → Taken → Taken → Bool → Type 0
HoldsAhead end old read true = AllByRecursion (λ one. one.tick < end) (as_list old.ahead)
    × (read ≡ record old { ahead = None; held = held_after old.held (as_list old.ahead) })
HoldsAhead end old read false = (read ≡ old) × IfSome old.ahead (λ one. end ≤ one.tick) × (old.ahead ≢ None)

-- what taking records up to a tick answers
abbrev pub TakesTo : FileParts → ReadText → ℕ → Taken → Taken → Result Unit FeedFault → Type 0
TakesTo parts text end old read (Ok done) = Takes parts text end old read × HasCome parts text end read
TakesTo parts text end old read (Err fault) = MeetsRefusal parts text end old fault
