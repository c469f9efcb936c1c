-- Words of the proofs: a reader of the contracts needs none of them.
-- What the private steps of the call do.
use Rattle.std.specs.Prelude.{◌≡◌, ◌⊎◌, ◌+◌, ◌*◌, ◌≤◌, min, Bool, true, false, List, [], ℕ, Option, Some, None, IfSome, Result, Ok, Err}
use Rattle.flow_edge.specs.Faults.{Rose}
use Rattle.parts.specs.Parts.{FileParts}
use Rattle.plant.specs.Sound.{IsPlant}
use Rattle.tables.specs.Steps.{trace_header}
use Rattle.feeds.specs.ReaderOf.{ReaderOf, Feeding}
use Rattle.feeds.specs.Standing.{IsReaderFor}
use Rattle.relax_core.specs.Board.{RowOf}
use Rattle.relax_core.specs.Settled.{WindowOf, Settles}
use Rattle.report.specs.Output.{output_rows}
use Rattle.report.specs.Trace.{names_of, trace_rows}
use Rattle.report.specs.declared.fault.TopFault.{TopFault}
use Rattle.report.specs.declared.fault.TopFault.TheVariants.{ReadPlant, ReadExtra, WriteOut, WriteTrace}
use Rattle.window_accept.specs.Session.{SessionOf, IsReady, IsAlong, NextWindow}
use Rattle.window_accept.specs.declared.end.WindowEnd.{WindowEnd}
use Rattle.window_accept.specs.declared.end.WindowEnd.TheVariants as window_end
use Rattle.flow_top.specs.declared.words.Command.{Command}
use Rattle.plant_gen.specs.Generated.{longest_train}
use Rattle.flow_top.specs.declared.words.Command.TheVariants.{Run, Direct, Check, Demo}
use Rattle.flow_top.specs.declared.words.Request.{Request}
use Rattle.flow_top.specs.declared.fault.Stop.{Stop}
use Rattle.flow_top.specs.declared.fault.End.{End}
use Rattle.flow_top.specs.declared.fault.End.TheVariants.{Stopped, NoMemory}
use Rattle.flow_top.specs.declared.fault.Unfit.{Unfit}
use Rattle.flow_top.specs.declared.fault.Unfit.TheVariants as unfit
use Rattle.flow_top.specs.declared.making.Texts.{Texts}
use Rattle.flow_top.specs.Words.{reads_records, most_workers}
use Rattle.flow_top.specs.Faults.{stop_by}
use Rattle.flow_top.specs.Judged.{Judgement}
use Rattle.flow_top.specs.WindowsCourse.{first_tick, window_rows, traced_in, IsAccepted, StopsAfter}
use Rattle.flow_top.specs.Uses.{SourceUse, SinkUse, Sinks, IsUntouched, IsUnwritten, WasGiven, Broke}
use Rattle.flow_top.specs.Ended.{SaysParts, IsRefused, WorkEnded, AreTold, records_for, IsBlamed}

-- how many options a request has, and the position behind them
abbrev pub given : Option ℕ → ℕ
given None = 0
given (Some value) = 1

abbrev pub first_option : Command → ℕ
first_option (Demo stages) = 3
first_option command = 2

abbrev pub place_after : Request → ℕ
place_after request = first_option request.command + 2 * (given request.feeds + given request.journal + given request.workers)

-- a plant can be generated of so many stages
abbrev pub AreStages : Command → Type 0
AreStages (Demo stages) = (1 ≤ stages) × (stages ≤ longest_train)
AreStages command = Unit {0}

-- so many workers can relax
abbrev pub AreWorkers : ℕ → Type 0
AreWorkers count = (1 ≤ count) × (count ≤ most_workers)

-- a request for records comes with a command that reads them, and one for workers with a number of them that can relax
pub record IsAsked (request : Request) : Type 0 where
  pub stages : AreStages request.command
  pub unread : reads_records request.command ≡ false → request.feeds ≡ None
  pub workers : IfSome request.workers AreWorkers

-- a fact of the judgement that was found, unless memory ran out
abbrev pub Finds : (Judgement → Type 0) → Result FileParts Unfit → Type 0
Finds IsFound (Ok parts) = IsFound (Ok parts)
Finds IsFound (Err (unfit.Fault fault)) = IsFound (Err fault)
Finds IsFound (Err unfit.NoMemory) = Unit {0}

-- the text of the plant source is read, and its parts are a plant
pub record HasPlant (source : SourceUse) (parts : FileParts) : Type 0 where
  pub says : SaysParts source parts
  pub plant : IsPlant parts

-- the text is refused, or the source failed
pub data StopsReading (command : Command) (plant : SourceUse) (stop : Stop) : Type 0 where
  refusal : (fault : TopFault) → IsRefused plant fault → stop ≡ stop_by command fault → StopsReading command plant stop
  failure : Rose plant.before plant.now → stop ≡ stop_by command ReadPlant → StopsReading command plant stop

-- how reading the plant ended
abbrev pub PlantEnded : Command → Result FileParts End → SourceUse → Type 0
PlantEnded command (Ok parts) plant = HasPlant plant parts
PlantEnded command (Err (Stopped stop)) plant = StopsReading command plant stop
PlantEnded command (Err NoMemory) plant = Unit {0}

-- the piece was written; or its sink failed, which stops the command with this fault
abbrev pub PieceEnded : Command → TopFault → Result (Unit {0}) End → SinkUse → List ℕ → Type 0
PieceEnded command fault (Ok done) sink piece = WasGiven sink piece
PieceEnded command fault (Err (Stopped stop)) sink piece = Broke sink piece × (stop ≡ stop_by command fault)
PieceEnded command fault (Err NoMemory) sink piece = ⊥

-- to the trace: the text was written; or there is none, and nothing was
abbrev pub GivesSteps : SinkUse → Option (List ℕ) → Type 0
GivesSteps trace None = IsUnwritten trace
GivesSteps trace (Some text) = WasGiven trace text

-- a text was written to the output and then, where there is one, one to the trace; or a sink failed, which stops the command
pub data PairEnded (command : Command) (sinks : Sinks) (rows : List ℕ) (steps : Option (List ℕ)) :
    Result (Unit {0}) End → Type 0 where
  whole : WasGiven sinks.out rows → GivesSteps sinks.trace steps → PairEnded command sinks rows steps (Ok tt)
  output : Broke sinks.out rows → IsUnwritten sinks.trace →
      PairEnded command sinks rows steps (Err (Stopped (stop_by command WriteOut)))
  trace : (text : List ℕ) → steps ≡ Some text → WasGiven sinks.out rows → Broke sinks.trace text →
      PairEnded command sinks rows steps (Err (Stopped (stop_by command WriteTrace)))

-- no count of faults fell
pub record AreCounted (sinks : Sinks) : Type 0 where
  pub out : sinks.out.before ≤ sinks.out.now
  pub trace : sinks.trace.before ≤ sinks.trace.now

-- the header of its trace, where it writes one
abbrev pub header_of_steps : Command → Option (List ℕ)
header_of_steps Run = Some trace_header
header_of_steps Direct = None
header_of_steps Check = None
header_of_steps (Demo stages) = None

-- the command writes the windows of the interval run, relaxed or stepped
abbrev pub WritesBy : Command → Bool → Type 0
WritesBy Run relaxes = relaxes ≡ true
WritesBy Direct relaxes = relaxes ≡ false
WritesBy Check relaxes = ⊥
WritesBy (Demo stages) relaxes = ⊥

-- the text of a window for the trace: the rows of some steps that settle it; or none, where windows are stepped
abbrev pub AreSteps : Bool → FileParts → Option (List ℕ) → ℕ → Option (List ℕ) → Type 0
AreSteps true parts records w None = ⊥
AreSteps true parts records w (Some text) =
    (made : List RowOf) × Settles ((traced_in parts records).window w) made × (text ≡ trace_rows (names_of parts) w made)
AreSteps false parts records w steps = steps ≡ None

-- the texts of a window, for the output and for the trace
pub record AreTexts (relaxes : Bool) (parts : FileParts) (records : Option (List ℕ)) (w : ℕ) (texts : Texts) : Type 0 where
  pub rows_are : texts.rows ≡ window_rows parts records w
  pub steps_are : AreSteps relaxes parts records w texts.steps

-- the texts of a window that was made: its rows and, where it was relaxed, those of its steps
abbrev pub steps_text : Bool → FileParts → ℕ → WindowOf → Option (List ℕ)
steps_text true parts w window = Some (trace_rows (names_of parts) w window.steps)
steps_text false parts w window = None

pub record AreTextsOf (relaxed : Bool) (parts : FileParts) (w : ℕ) (window : WindowOf) (texts : Texts) : Type 0 where
  pub rows_are : texts.rows ≡ output_rows parts window
  pub steps_are : texts.steps ≡ steps_text relaxed parts w window

-- what was answered for the texts of a session's next window, which has this number: those of the window; or that memory ran out, be it
-- before the window was made or behind; or why there is no window
abbrev pub NextTexts : Bool → ℕ → SessionOf → SessionOf → Feeding → Feeding → Result Texts WindowEnd → Type 0
NextTexts relaxes w old new reader read (Ok texts) =
    (window : WindowOf) × NextWindow relaxes old new reader read (Ok window) × AreTextsOf relaxes old.parts w window texts
NextTexts relaxes w old new reader read (Err window_end.NoMemory) =
    (answer : Result WindowOf WindowEnd) × NextWindow relaxes old new reader read answer
NextTexts relaxes w old new reader read (Err end) = NextWindow relaxes old new reader read (Err end)

-- a reader that was opened for a plant, and asked for no window yet
pub record IsOpened (parts : FileParts) (reader : ReaderOf) : Type 0 where
  pub asked : reader.asked ≡ 0
  pub faultless : reader.fault ≡ None
  pub reader_is : IsReaderFor parts reader

-- whatever the records say: a session before window w of its plant, and a reader that is ready for it
pub record IsBefore (w : ℕ) (session : SessionOf) (reader : ReaderOf) : Type 0 where
  pub tick : session.tick ≡ min (first_tick session.parts w) session.parts.ticks
  pub unended : session.end ≡ None
  pub ready : IsReady session reader
  pub faultless : reader.fault ≡ None

-- the session gave window w, and is before the next one
pub record HasMoved (w : ℕ) (old new : SessionOf) (reader : ReaderOf) : Type 0 where
  pub same : new.parts ≡ old.parts
  pub before : IsBefore (w + 1) new reader

-- with the plant's last window, the records were read to their end
abbrev pub IsReadWith : FileParts → Option (List ℕ) → SessionOf → Feeding → Type 0
IsReadWith parts records session feeds = session.tick ≡ parts.ticks → IfSome records (λ _. feeds.left ≡ Some [])

-- the texts of window w were made, which is accepted, and session and reader follow the run by these records on
pub record HasTexts (relaxes : Bool) (parts : FileParts) (records : Option (List ℕ)) (w : ℕ) (session : SessionOf) (feeds : Feeding)
    (texts : Texts) : Type 0 where
  pub texts_are : AreTexts relaxes parts records w texts
  pub accepted : IsAccepted parts records w
  pub along : IsAlong records session feeds
  pub read_up : IsReadWith parts records session feeds

-- the source of records failed, which stops the command
pub record IsUnread (command : Command) (before now : ℕ) (stop : Stop) : Type 0 where
  pub rose : Rose before now
  pub stop_is : stop ≡ stop_by command ReadExtra

-- how making the next window's texts ended, by these records
abbrev pub TextsEnded : Command → Bool → FileParts → Option (List ℕ) → ℕ → SessionOf → Feeding → Feeding → Result Texts End → Type 0
TextsEnded command relaxes parts records w session feeds read (Ok texts) = HasTexts relaxes parts records w session read texts
TextsEnded command relaxes parts records w session feeds read (Err (Stopped stop)) =
    StopsAfter command parts records w (Some stop) ⊎ IsUnread command feeds.faults read.faults stop
TextsEnded command relaxes parts records w session feeds read (Err NoMemory) = Unit {0}

-- the end of a command by the fault of a reader, among all faults
abbrev pub end_by_feeds : Command → Option TopFault → End
end_by_feeds command None = NoMemory
end_by_feeds command (Some fault) = Stopped (stop_by command fault)

-- how the work of a request on a plant ends, whatever the source of records tells
pub record RequestEnded (request : Request) (parts : FileParts) (extra : SourceUse) (sinks : Sinks)
    (ending : Result (Unit {0}) End) : Type 0 where
  pub worked : AreTold request extra → WorkEnded request.command parts (records_for request extra) extra sinks ending
  pub blamed : IsBlamed request.command ending extra sinks
  pub unasked : request.feeds ≡ None → IsUntouched extra
