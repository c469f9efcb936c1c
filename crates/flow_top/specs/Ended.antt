-- How the work of a call ends, and what then stands in the sources, the output and the trace.
use Rattle.std.specs.Prelude.{◌≡◌, ◌≢◌, ◌⊎◌, ℕ, ◌<◌, ◌≤◌, List, [], Option, Some, None, IfSome, Result, Ok, Err}
use Rattle.flow_edge.specs.Faults.{Rose}
use Rattle.flow_edge.specs.Sink.{GivesFront}
use Rattle.flow_edge.specs.declared.status.Status.TheVariants as status
use Rattle.parts.specs.Parts.{FileParts}
use Rattle.flow_top.specs.declared.words.Command.{Command}
use Rattle.flow_top.specs.declared.words.Command.TheVariants.{Run, Direct, Check, Demo}
use Rattle.flow_top.specs.declared.fault.Stop.{Stop}
use Rattle.flow_top.specs.declared.fault.End.{End}
use Rattle.flow_top.specs.declared.fault.End.TheVariants.{Stopped, NoMemory}
use Rattle.report.specs.declared.fault.TopFault.{TopFault}
use Rattle.report.specs.declared.fault.TopFault.TheVariants.{Words, BadRecord, UnknownPlace, Order, Outside, FeedTooLong, Wide, ReadPlant, ReadExtra, WriteOut, WriteTrace}
use Rattle.flow_top.specs.declared.words.Request.{Request}
use Rattle.flow_top.specs.Words.{request_in}
use Rattle.flow_top.specs.Faults.{IsTextFault, stop_by}
use Rattle.flow_top.specs.Judged.{IsJudged}
use Rattle.report.specs.Trace.{IsTrace}
use Rattle.flow_top.specs.Course.{Traced, Course, written, text_of}
use Rattle.flow_top.specs.Courses.{ReadsPlant, IsWork}
use Rattle.plant_gen.specs.Generated.{generated_parts}
use Rattle.flow_top.specs.Uses.{SourceUse, SinkUse, Sinks, IsUntouched, IsUnwritten, AreUnwritten, WasGiven, Broke}

-- the plant source was read to its end, and its text says these parts
pub record SaysParts (plant : SourceUse) (parts : FileParts) : Type 0 where
  pub text : IfSome plant.text (λ bytes. IsJudged bytes (Ok parts))
  pub whole : IfSome plant.text (λ _. plant.left ≡ Some [])

-- the parts of a command's plant: those that the text of the plant source says; or the generated ones, and no text is read
abbrev pub HasParts : Command → SourceUse → FileParts → Type 0
HasParts Run plant parts = SaysParts plant parts
HasParts Direct plant parts = SaysParts plant parts
HasParts Check plant parts = SaysParts plant parts
HasParts (Demo stages) plant parts = (parts ≡ generated_parts stages) × IsUntouched plant

-- its text is refused
pub record IsRefused (plant : SourceUse) (fault : TopFault) : Type 0 where
  pub text : IfSome plant.text (λ bytes. IsJudged bytes (Err fault))
  pub kind : IsTextFault fault

-- in the trace stands a legal trace of the first k windows, where the course has one
abbrev pub TraceStood : Option Traced → ℕ → SinkUse → Type 0
TraceStood None k trace = IsUnwritten trace
TraceStood (Some traced) k trace =
    (text : List ℕ) × IsTrace traced.names traced.window k text × WasGiven trace text

-- of a course the header and the rows of the first k windows stand, and in the trace a legal one of the same windows
pub record Stood (course : Course) (k : ℕ) (sinks : Sinks) : Type 0 where
  pub few : k ≤ course.windows
  pub output : WasGiven sinks.out (written course k)
  pub trace : TraceStood course.trace k sinks.trace
  -- an empty text is not written at all
  pub silent : written course k ≡ [] → IsUnwritten sinks.out

-- in the trace stands some first part of a legal trace of at most n windows, where the course has one
abbrev pub TraceFront : Option Traced → ℕ → SinkUse → Type 0
TraceFront None n trace = IsUnwritten trace
TraceFront (Some traced) n trace =
    (k : ℕ) × (text : List ℕ) × (k ≤ n) × IsTrace traced.names traced.window k text
    × GivesFront trace.had trace.has text

-- A sink failed: in the output stands a first part of the course's text, and in the trace one of a legal trace. The fault says
-- which of the two it was.
pub data BrokeOff (course : Course) (sinks : Sinks) : TopFault → Type 0 where
  output : Broke sinks.out (text_of course) → TraceFront course.trace course.windows sinks.trace →
      BrokeOff course sinks WriteOut
  trace : (traced : Traced) → course.trace ≡ Some traced → GivesFront sinks.out.had sinks.out.has (text_of course) →
      TraceFront course.trace course.windows sinks.trace → Rose sinks.trace.before sinks.trace.now →
      BrokeOff course sinks WriteTrace

-- how a course ends: whole, or at its stop
abbrev pub course_end : Option Stop → Result (Unit {0}) End
course_end None = Ok tt
course_end (Some stop) = Err (Stopped stop)

-- the source of records was read to its end, where there are records
abbrev pub IsReadUp : Option (List ℕ) → SourceUse → Type 0
IsReadUp records extra = IfSome records (λ _. extra.left ≡ Some [])

-- How the work of a command ends on a plant and these records, which the source of records had left, where the command reads it.
pub data WorkEnded (command : Command) (parts : FileParts) (records : Option (List ℕ)) (extra : SourceUse) (sinks : Sinks)
    (ending : Result (Unit {0}) End) : Type 0 where
  -- all windows of its course stand, up to the course's stop; and without one the records were read to their end
  through : (course : Course) → IsWork command parts records course → Stood course course.windows sinks →
      (course.stop ≡ None → IsReadUp records extra) → ending ≡ course_end course.stop →
      WorkEnded command parts records extra sinks ending
  -- the source of records failed before the next window
  unread : (course : Course) (k : ℕ) → IsWork command parts records course → Stood course k sinks →
      (course.stop ≡ None → k < course.windows) → Rose extra.before extra.now →
      ending ≡ Err (Stopped (stop_by command ReadExtra)) → WorkEnded command parts records extra sinks ending
  -- a sink failed in the midst of the course's text, which is not empty, and of its trace
  broken : (course : Course) (fault : TopFault) → IsWork command parts records course → text_of course ≢ [] →
      BrokeOff course sinks fault → ending ≡ Err (Stopped (stop_by command fault)) →
      WorkEnded command parts records extra sinks ending
  -- memory ran out before anything was written, or after some windows, but for all of a course that nothing stops
  early : AreUnwritten sinks → ending ≡ Err NoMemory → WorkEnded command parts records extra sinks ending
  within : (course : Course) (k : ℕ) → IsWork command parts records course → Stood course k sinks →
      (course.stop ≡ None → k < course.windows) → ending ≡ Err NoMemory → WorkEnded command parts records extra sinks ending

-- none where no records are asked for; else the text of their source
abbrev pub records_of : Option ℕ → Option (List ℕ) → Option (List ℕ)
records_of None text = None
records_of (Some at) text = text

-- the records that a request asks for: none; or the text that their source had left, where it tells it
abbrev pub records_for : Request → SourceUse → Option (List ℕ)
records_for request extra = records_of request.feeds extra.text

-- the request asks for no records, or their source tells its text
abbrev pub AreTold : Request → SourceUse → Type 0
AreTold request extra = (request.feeds ≡ None) ⊎ ((text : List ℕ) × (extra.text ≡ Some text))

-- Whatever the source of records tells, the work of a command on a plant is stopped by a record, by a band that is too wide, or by a
-- device; and by a device only where it counted a fault.
abbrev pub BlamedOn : TopFault → SourceUse → Sinks → Type 0
BlamedOn (BadRecord at) extra sinks = Unit {0}
BlamedOn (UnknownPlace at) extra sinks = Unit {0}
BlamedOn (Order at) extra sinks = Unit {0}
BlamedOn (Outside at) extra sinks = Unit {0}
BlamedOn (FeedTooLong at) extra sinks = Unit {0}
BlamedOn (Wide stream channel tick width limit) extra sinks = Unit {0}
BlamedOn ReadExtra extra sinks = Rose extra.before extra.now
BlamedOn WriteOut extra sinks = Rose sinks.out.before sinks.out.now
BlamedOn WriteTrace extra sinks = Rose sinks.trace.before sinks.trace.now
BlamedOn fault extra sinks = ⊥

-- and such a stop has the status that the command gives its fault
abbrev pub IsBlamed : Command → Result (Unit {0}) End → SourceUse → Sinks → Type 0
IsBlamed command (Ok done) extra sinks = Unit {0}
IsBlamed command (Err NoMemory) extra sinks = Unit {0}
IsBlamed command (Err (Stopped stop)) extra sinks = (stop ≡ stop_by command stop.fault) × BlamedOn stop.fault extra sinks

-- How a command ends: without a plant, and then nothing was written, and no record read; or as its work on the plant does, which is told
-- where the records are. Their source is untouched where none are asked for.
pub data CommandEnded (request : Request) (plant extra : SourceUse) (sinks : Sinks) (ending : Result (Unit {0}) End) : Type 0 where
  refused : (fault : TopFault) → ReadsPlant request.command → IsRefused plant fault → IsUntouched extra → AreUnwritten sinks →
      ending ≡ Err (Stopped (stop_by request.command fault)) → CommandEnded request plant extra sinks ending
  failed : ReadsPlant request.command → Rose plant.before plant.now → IsUntouched extra → AreUnwritten sinks →
      ending ≡ Err (Stopped (stop_by request.command ReadPlant)) → CommandEnded request plant extra sinks ending
  starved : ReadsPlant request.command → IsUntouched extra → AreUnwritten sinks → ending ≡ Err NoMemory → CommandEnded request plant extra sinks ending
  worked : (parts : FileParts) → HasParts request.command plant parts →
      (AreTold request extra → WorkEnded request.command parts (records_for request extra) extra sinks ending) →
      IsBlamed request.command ending extra sinks → (request.feeds ≡ None → IsUntouched extra) →
      CommandEnded request plant extra sinks ending

-- How the work of a call ends: the words are refused, and nothing was read or written; or as their command does.
pub data Ended (words : List (List ℕ)) (plant extra : SourceUse) (sinks : Sinks) (ending : Result (Unit {0}) End) : Type 0 where
  misread : (at : ℕ) → request_in words ≡ Err at → IsUntouched plant → IsUntouched extra → AreUnwritten sinks →
      ending ≡ Err (Stopped (record { fault = Words at; status = status.Words })) → Ended words plant extra sinks ending
  asked : (request : Request) → request_in words ≡ Ok request → CommandEnded request plant extra sinks ending →
      Ended words plant extra sinks ending
