-- Words of the proofs: a reader of the contracts needs none of them.
-- The tubes of one window from a text of records.
use Rattle.std.specs.Prelude.{◌≡◌, ◌≢◌, ◌⊎◌, ℕ, ◌+◌, ◌<◌, ◌≤◌, List, [], Option, Some, None, IfSome, IfOk, Result, Ok, Err}
use Rattle.std.specs.List.{AllByRecursion}
use Rattle.flow_edge.specs.ReadText.{ReadText}
use Rattle.relaxation.specs.Tube.{Tube}
use Rattle.parts.specs.Parts.{FileParts}
use Rattle.feeds.specs.declared.taken.Taken.{Taken}
use Rattle.feeds.specs.declared.reader.FeedFault.{FeedFault}
use Rattle.feeds.specs.declared.reader.FeedFault.TheVariants.{ReadFault, NoMemory}
use Rattle.feeds.specs.Given.{fed_tubes}
use Rattle.feeds.specs.Records.{last_tick, no_more}
use Rattle.feeds.specs.Filling.{AreFilledBefore, filled_bands}
use Rattle.feeds.specs.declared.records.Records.{Records}
use Rattle.feeds.specs.Given.{given_tubes, refusal_by, tubes_by}
use Rattle.feeds.specs.Standing.{pending, AreRecordsFor, StandsAt, StandsIn}
use Rattle.feeds.specs.Reader.{AreFeedTubes, IsFailure}
use Rattle.feeds.specs.Taking.{Takes, HasCome, MeetsRefusal}

-- all ticks of the window have what records say
pub record Fills (parts : FileParts) (text : ReadText) (first n : ℕ) (old read : Taken) (tubes : List Tube) : Type 0 where
  pub takes : Takes parts text (first + n) old read
  pub come : HasCome parts text (first + n) read
  pub filled : AreFilledBefore parts old.held (pending parts text old).records first n n tubes

abbrev pub AnswersFilling : FileParts → ReadText → ℕ → ℕ → Taken → Taken → List Tube → Result Unit FeedFault → Type 0
AnswersFilling parts text first n old read tubes (Ok done) = Fills parts text first n old read tubes
AnswersFilling parts text first n old read tubes (Err fault) = MeetsRefusal parts text (first + n) old fault

-- where the run ends at this tick, all was taken that is left, and else nothing
pub record HasEnded (parts : FileParts) (text : ReadText) (end : ℕ) (old read : Taken) : Type 0 where
  pub all : end ≡ parts.ticks → Takes parts text (last_tick + 1) old read × (pending parts text read ≡ no_more)
  pub stays : end ≢ parts.ticks → read ≡ old

abbrev pub EndsRun : FileParts → ReadText → ℕ → Taken → Taken → Result Unit FeedFault → Type 0
EndsRun parts text end old read (Ok done) = HasEnded parts text end old read
EndsRun parts text end old read (Err fault) = (end ≡ parts.ticks) × MeetsRefusal parts text (last_tick + 1) old fault

-- The tubes of a window have what records say. It took those with ticks before its end, or all, where the run ends with it.
pub record FillsWindow (parts : FileParts) (text : ReadText) (first n : ℕ) (old read : Taken) (tubes : List Tube) : Type 0 where
  pub tubes_are : tubes ≡ fed_tubes parts (filled_bands parts old.held (pending parts text old).records) first n
  pub end : ℕ
  pub takes : Takes parts text end old read
  pub ends : first + n ≡ parts.ticks → pending parts text read ≡ no_more
  pub goes_on : first + n ≢ parts.ticks → (end ≡ first + n) × HasCome parts text end read

-- the window takes a record that is refused
pub record IsRefused (parts : FileParts) (text : ReadText) (first n : ℕ) (old : Taken) (fault : FeedFault) : Type 0 where
  pub refusal : (pending parts text old).refusal ≡ Some fault
  pub before : first + n ≢ parts.ticks → AllByRecursion (λ one. one.tick < first + n) (pending parts text old).records
  pub other : fault ≢ ReadFault

abbrev pub AnswersWindow : FileParts → ReadText → ℕ → ℕ → Taken → Taken → Result (List Tube) FeedFault → Type 0
AnswersWindow parts text first n old read (Ok tubes) = FillsWindow parts text first n old read tubes
AnswersWindow parts text first n old read (Err fault) = IsRefused parts text first n old fault ⊎ (fault ≡ NoMemory)

-- what the records of a text say of a window
abbrev pub AnswersText : FileParts → List ℕ → ℕ → ℕ → Records → Option (List ℕ) → Result (List Tube) FeedFault → Type 0
AnswersText parts text first n read left (Ok tubes) =
    (refusal_by parts (Some text) (first + n) ≡ None) × (tubes ≡ tubes_by parts (Some text) first n)
    × StandsAt parts text (first + n) left read.text read.taken × (first + n ≡ parts.ticks → left ≡ Some [])
AnswersText parts text first n read left (Err fault) =
    (refusal_by parts (Some text) (first + n) ≡ Some fault) ⊎ IsFailure fault

-- What a window of records answers, with what the source has left before and after: tubes in the limits, by the records of any text
-- that was stood in.
pub record GivesIn (parts : FileParts) (first n : ℕ) (old : Records) (left_old : Option (List ℕ)) (read : Records)
    (left : Option (List ℕ)) (answer : Result (List Tube) FeedFault) : Type 0 where
  pub tubes : IfOk answer (AreFeedTubes parts n)
  pub by : (text : List ℕ) (asked : ℕ) → asked ≤ first → StandsAt parts text asked left_old old.text old.taken →
      AnswersText parts text first n read left answer

-- what the plant file alone gives
abbrev pub AnswersPlain : FileParts → ℕ → ℕ → Result (List Tube) FeedFault → Type 0
AnswersPlain parts first n (Ok tubes) = tubes ≡ given_tubes parts first n
AnswersPlain parts first n (Err fault) = fault ≡ NoMemory

abbrev pub AnswersStanding : FileParts → List ℕ → ℕ → ℕ → Option Records → Option (List ℕ) →
    Result (List Tube) FeedFault → Type 0
AnswersStanding parts text first n read left (Ok tubes) =
    (refusal_by parts (Some text) (first + n) ≡ None) × (tubes ≡ tubes_by parts (Some text) first n)
    × StandsIn parts text (first + n) left read × (first + n ≡ parts.ticks → left ≡ Some [])
AnswersStanding parts text first n read left (Err fault) =
    (refusal_by parts (Some text) (first + n) ≡ Some fault) ⊎ IsFailure fault

-- what a window answers with records or without them
pub record GivesTubes (parts : FileParts) (first n : ℕ) (old : Option Records) (left_old : Option (List ℕ)) (read : Option Records)
    (left : Option (List ℕ)) (answer : Result (List Tube) FeedFault) : Type 0 where
  pub tubes : IfOk answer (AreFeedTubes parts n)
  pub plain : old ≡ None → (read ≡ None) × AnswersPlain parts first n answer
  pub by : (text : List ℕ) (asked : ℕ) → asked ≤ first → StandsIn parts text asked left_old old →
      AnswersStanding parts text first n read left answer
  pub records : IfSome read (AreRecordsFor parts)
