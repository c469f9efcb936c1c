-- A reader of a plant's feeds, and what it answers where it is asked for the tubes of a window.
use Rattle.std.specs.Prelude.{◌≡◌, ◌⊎◌, ℕ, ◌+◌, ◌<◌, ◌≤◌, List, [], length, slice_index_or, Option, Some, None, IfSome, IfOk, Result, Ok, Err}
use Rattle.flow_edge.specs.Faults.{Rose}
use Rattle.relaxation.specs.Tube.{Tube, at}
use Rattle.parts.specs.Parts.{FileParts}
use Rattle.plant_streams.specs.Limits.{limits_at}
use Rattle.feeds.specs.Given.{tubes_by, refusal_by}
use Rattle.feeds.specs.Standing.{Stands, IsReaderFor}
use Rattle.feeds.specs.ReaderOf.{Feeding}
use Rattle.renewal.specs.Plan.{AreWithin}
use Rattle.feeds.specs.declared.reader.FeedFault.{FeedFault}
use Rattle.feeds.specs.declared.reader.FeedFault.TheVariants.{ReadFault, NoMemory}

-- what a device or want of memory answers, whatever the records say
abbrev pub IsFailure : FeedFault → Type 0
IsFailure fault = (fault ≡ ReadFault) ⊎ (fault ≡ NoMemory)

-- Where a reader stands in a text of records, or has none, it gives the tubes that they give, of records of which the window takes none
-- that is refused, and stands behind those that it takes, at the end of the text where the run ends; or it answers the refused record;
-- or it fails.
abbrev pub GivesBy : FileParts → Option (List ℕ) → ℕ → ℕ → Feeding → Result (List Tube) FeedFault → Type 0
GivesBy parts records first n read (Ok tubes) =
    (refusal_by parts records (first + n) ≡ None) × (tubes ≡ tubes_by parts records first n)
    × Stands parts records read × (first + n ≡ parts.ticks → IfSome records (λ _. read.left ≡ Some []))
GivesBy parts records first n read (Err fault) = (refusal_by parts records (first + n) ≡ Some fault) ⊎ IsFailure fault

-- tubes of n ticks for each feed, of bands with numbers in them, in the limits that the plant has for its channels
pub record AreFeedTubes (parts : FileParts) (n : ℕ) (tubes : List Tube) : Type 0 where
  pub counted : length tubes ≡ length parts.feeds
  pub ticks : (f : ℕ) → f < length parts.feeds → length (slice_index_or tubes f []) ≡ n
  pub within : (f t : ℕ) → f < length parts.feeds → t < n → AreWithin (at (slice_index_or tubes f []) t) (limits_at parts f)

-- the fault of an answer
abbrev pub fault_of : Result (List Tube) FeedFault → Option FeedFault
fault_of (Ok tubes) = None
fault_of (Err fault) = Some fault

-- What a reader answers that is asked for n ticks from a first one, with what it and its source are before and after.
pub record Gives (parts : FileParts) (first n : ℕ) (old read : Feeding) (answer : Result (List Tube) FeedFault) : Type 0 where
  -- a fault that it has answered before is answered again, and nothing is touched
  pub again : (fault : FeedFault) → old.reader.fault ≡ Some fault → (answer ≡ Err fault) × (read ≡ old)
  -- else it keeps its answer's fault, and the end of the window
  pub kept : old.reader.fault ≡ None → (read.reader.fault ≡ fault_of answer) × (read.reader.asked ≡ first + n)
  pub tubes : IfOk answer (AreFeedTubes parts n)
  -- what the records say, whatever text it stands in
  pub by : old.reader.fault ≡ None → (records : Option (List ℕ)) → Stands parts records old → GivesBy parts records first n read answer
  -- a read fault comes only where the source counted one
  pub failed : old.reader.fault ≡ None → answer ≡ Err ReadFault → Rose old.faults read.faults
  -- no count fell, the reader is still one of this plant, and without records the source is untouched
  pub counted : old.faults ≤ read.faults
  pub reader : IsReaderFor parts read.reader
  pub plain : old.reader.records ≡ None → (read.reader.records ≡ None) × (read.left ≡ old.left) × (read.faults ≡ old.faults)
