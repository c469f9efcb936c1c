-- The cause of each status.
use Rattle.std.specs.Prelude.{◌≡◌, ◌⊎◌, ℕ, ◌<◌, ◌≤◌, List, Option, Some, None, IfSome, Ok, Err}
use Rattle.flow_edge.specs.Faults.{Rose}
use Rattle.flow_edge.specs.declared.status.Status.{Status}
use Rattle.flow_edge.specs.declared.status.Status.TheVariants as status
use Rattle.parts.specs.Parts.{FileParts}
use Rattle.plant_gen.specs.Generated.{generated_parts}
use Rattle.flow_top.specs.declared.words.Command.{Command}
use Rattle.flow_top.specs.declared.words.Command.TheVariants.{Run, Direct, Check, Demo}
use Rattle.flow_top.specs.declared.fault.Stop.{Stop}
use Rattle.report.specs.declared.fault.TopFault.{TopFault}
use Rattle.report.specs.declared.fault.TopFault.TheVariants.{Words, ReadPlant, ReadExtra, WriteOut, WriteTrace}
use Rattle.flow_top.specs.declared.words.Request.{Request}
use Rattle.flow_top.specs.Words.{request_in}
use Rattle.flow_top.specs.Faults.{status_of, stop_by}
use Rattle.flow_top.specs.Judged.{Judgement, IsJudged}
use Rattle.flow_top.specs.Course.{Course, written, text_of}
use Rattle.flow_top.specs.Courses.{ReadsPlant, IsWork}
use Rattle.report.specs.Lines.{fault_line, memory_line}
use Rattle.flow_top.specs.Uses.{SourceUse, SinkUse, Sinks, IsUntouched, IsUnwritten, AreUnwritten, WasGiven, Broke}
use Rattle.flow_top.specs.Ended.{TraceStood, BrokeOff, AreTold, records_for, IsReadUp, HasParts}

-- a text has this judgement, where it is told
abbrev pub TellsJudged : Option (List ℕ) → Judgement → Type 0
TellsJudged None judgement = ⊥
TellsJudged (Some text) judgement = IsJudged text judgement

-- what a command's plant is by the text of its source: the judgement of the text; or the generated plant, whatever the text
abbrev pub IsGiven : Command → Option (List ℕ) → Judgement → Type 0
IsGiven Run text judgement = TellsJudged text judgement
IsGiven Direct text judgement = TellsJudged text judgement
IsGiven Check text judgement = TellsJudged text judgement
IsGiven (Demo stages) text judgement = judgement ≡ Ok (generated_parts stages)

-- How a command ends where its plant source has this text, and with a text of records where one is given, where no device fails and
-- memory is there: by a refusal of the text; or as its course on its plant, at its stop where it has one.
pub data IsEndOn (command : Command) (text records : Option (List ℕ)) (end : Option Stop) : Type 0 where
  refusal : (fault : TopFault) → IsGiven command text (Err fault) → end ≡ Some (stop_by command fault) → IsEndOn command text records end
  course : (parts : FileParts) (course : Course) → IsGiven command text (Ok parts) → IsWork command parts records course →
      end ≡ course.stop → IsEndOn command text records end

-- where the words ask for records, their source tells its text
abbrev pub TellsRecords : List (List ℕ) → SourceUse → Type 0
TellsRecords words extra = (request : Request) → request_in words ≡ Ok request → AreTold request extra

-- The words are a request; the command has its plant, from the text of the plant source, which was read to its end, or generated; and
-- this is the command's course on it, with the records that the words ask for. Their source is untouched where they ask for none.
pub record IsAtWork (words : List (List ℕ)) (plant extra : SourceUse) : Type 0 where
  pub request : Request
  pub parts : FileParts
  pub course : Course
  pub asked : request_in words ≡ Ok request
  pub has : HasParts request.command plant parts
  pub work : IsWork request.command parts (records_for request extra) course
  pub unasked : request.feeds ≡ None → IsUntouched extra

-- the whole text of a course that nothing stops was given, and a legal trace of it, and the records were read to their end
pub record WroteAll (words : List (List ℕ)) (plant extra : SourceUse) (sinks : Sinks) : Type 0 where
  pub at : IsAtWork words plant extra
  pub records : IsReadUp (records_for at.request extra) extra
  pub whole : at.course.stop ≡ None
  pub output : WasGiven sinks.out (text_of at.course)
  pub trace : TraceStood at.course.trace at.course.windows sinks.trace

-- of a course the header and the rows of the first windows were given, with a legal trace of the same windows, and not all of them
-- where nothing stops it
pub record WroteSome (words : List (List ℕ)) (plant extra : SourceUse) (sinks : Sinks) : Type 0 where
  pub at : IsAtWork words plant extra
  pub windows : ℕ
  pub few : windows ≤ at.course.windows
  pub fewer : at.course.stop ≡ None → windows < at.course.windows
  pub output : WasGiven sinks.out (written at.course windows)
  pub trace : TraceStood at.course.trace windows sinks.trace

-- a sink failed, with this fault, after first parts of a course's text and of a legal trace of it
pub record WroteFront (fault : TopFault) (words : List (List ℕ)) (plant extra : SourceUse) (sinks : Sinks) : Type 0 where
  pub at : IsAtWork words plant extra
  pub broke : BrokeOff at.course sinks fault

-- the words are a command that reads a plant, and the text of the plant source is refused by this fault, which the command gives this status; its line
-- was given, no record was read, and nothing is in the output or the trace
pub record SaysRefusal (own : Status) (words : List (List ℕ)) (plant extra : SourceUse) (sinks : Sinks) (err : SinkUse) : Type 0 where
  pub request : Request
  pub fault : TopFault
  pub asked : request_in words ≡ Ok request
  pub reads : ReadsPlant request.command
  pub refused : IfSome plant.text (λ bytes. IsJudged bytes (Err fault))
  pub status : status_of request.command fault ≡ own
  pub line : WasGiven err (fault_line fault)
  pub unread : IsUntouched extra
  pub silent : AreUnwritten sinks

-- a course has a stop, by this fault with this status; the whole text before it was given, with a legal trace of it, and its line
pub record SaysStop (own : Status) (words : List (List ℕ)) (plant extra : SourceUse) (sinks : Sinks) (err : SinkUse) : Type 0 where
  pub at : IsAtWork words plant extra
  pub fault : TopFault
  pub stop : at.course.stop ≡ Some (stop_by at.request.command fault)
  pub status : status_of at.request.command fault ≡ own
  pub output : WasGiven sinks.out (text_of at.course)
  pub trace : TraceStood at.course.trace at.course.windows sinks.trace
  pub line : WasGiven err (fault_line fault)

-- the words are refused at this position, the line of it was given, and nothing else was read or written
pub record SaysWords (words : List (List ℕ)) (plant extra : SourceUse) (sinks : Sinks) (err : SinkUse) : Type 0 where
  pub at : ℕ
  pub refused : request_in words ≡ Err at
  pub line : WasGiven err (fault_line (Words at))
  pub unread : IsUntouched plant
  pub unread_records : IsUntouched extra
  pub silent : AreUnwritten sinks

-- the plant source failed, its line was given, and nothing in the output or the trace
pub record SaysReadFault (plant : SourceUse) (sinks : Sinks) (err : SinkUse) : Type 0 where
  pub fault : Rose plant.before plant.now
  pub line : WasGiven err (fault_line ReadPlant)
  pub silent : AreUnwritten sinks

-- the source of records failed, its line was given, and both headers and the same windows in the output and the trace
pub record SaysRecordsFault (words : List (List ℕ)) (plant extra : SourceUse) (sinks : Sinks) (err : SinkUse) : Type 0 where
  pub fault : Rose extra.before extra.now
  pub line : WasGiven err (fault_line ReadExtra)
  pub output : TellsRecords words extra → WroteSome words plant extra sinks

-- the output or the trace counted a fault, and this one names it
abbrev pub IsWriteFault : TopFault → Sinks → Type 0
IsWriteFault fault sinks = ((fault ≡ WriteOut) × Rose sinks.out.before sinks.out.now)
    ⊎ ((fault ≡ WriteTrace) × Rose sinks.trace.before sinks.trace.now)

-- the output or the trace failed, and its line was given
pub record SaysWriteFault (words : List (List ℕ)) (plant extra : SourceUse) (sinks : Sinks) (err : SinkUse) : Type 0 where
  pub fault : TopFault
  pub failed : IsWriteFault fault sinks
  pub front : TellsRecords words extra → WroteFront fault words plant extra sinks
  pub line : WasGiven err (fault_line fault)

-- memory ran out, its line was given, and in the output and the trace nothing, or the same windows
pub record SaysMemory (words : List (List ℕ)) (plant extra : SourceUse) (sinks : Sinks) (err : SinkUse) : Type 0 where
  pub line : WasGiven err memory_line
  pub output : TellsRecords words extra → AreUnwritten sinks ⊎ WroteSome words plant extra sinks

-- The cause of each status that is said in a line, and of done work. What stands of a course is told where the records are.
abbrev pub CauseSaid : Status → List (List ℕ) → SourceUse → SourceUse → Sinks → SinkUse → Type 0
CauseSaid status.Done words plant extra sinks err = (TellsRecords words extra → WroteAll words plant extra sinks) × IsUnwritten err
CauseSaid status.Words words plant extra sinks err = SaysWords words plant extra sinks err
CauseSaid status.Refused words plant extra sinks err = SaysRefusal status.Refused words plant extra sinks err
    ⊎ (TellsRecords words extra → SaysStop status.Refused words plant extra sinks err)
CauseSaid status.Wide words plant extra sinks err = TellsRecords words extra → SaysStop status.Wide words plant extra sinks err
CauseSaid status.ReadFault words plant extra sinks err =
    SaysReadFault plant sinks err ⊎ SaysRecordsFault words plant extra sinks err
CauseSaid status.WriteFault words plant extra sinks err = SaysWriteFault words plant extra sinks err
CauseSaid status.NoMemory words plant extra sinks err = SaysMemory words plant extra sinks err
CauseSaid status.No words plant extra sinks err = SaysRefusal status.No words plant extra sinks err

-- the errors failed in the midst of the line of another status, whose cause stands but for that line
pub record SaysNothing (words : List (List ℕ)) (plant extra : SourceUse) (sinks : Sinks) (err : SinkUse) : Type 0 where
  pub own : Status
  pub line : List ℕ
  pub broke : Broke err line
  pub instead : (said : SinkUse) → WasGiven said line → CauseSaid own words plant extra sinks said

-- the cause of each status, from what the call did to the two sources, the output, the trace and the errors
abbrev pub Cause : Status → List (List ℕ) → SourceUse → SourceUse → Sinks → SinkUse → Type 0
Cause status.WriteFault words plant extra sinks err =
    SaysWriteFault words plant extra sinks err ⊎ SaysNothing words plant extra sinks err
Cause status words plant extra sinks err = CauseSaid status words plant extra sinks err

-- its own status; or that of a write fault, where one of the error line was counted; or that of want of memory
abbrev pub AnswersOr : Status → SinkUse → Status → Type 0
AnswersOr own err result =
    (result ≡ own) ⊎ ((result ≡ status.WriteFault) × Rose err.before err.now) ⊎ (result ≡ status.NoMemory)

-- the same, or that of a read fault, where one of the plant source was counted
abbrev pub AnswersUnlessRead : Status → SourceUse → SinkUse → Status → Type 0
AnswersUnlessRead own plant err result =
    AnswersOr own err result ⊎ ((result ≡ status.ReadFault) × Rose plant.before plant.now)

-- the same, or that of a read fault of the records, or of a write fault of the output or the trace, where one was counted
abbrev pub AnswersUnlessFailed : Status → SourceUse → SourceUse → Sinks → SinkUse → Status → Type 0
AnswersUnlessFailed own plant extra sinks err result =
    AnswersUnlessRead own plant err result ⊎ ((result ≡ status.ReadFault) × Rose extra.before extra.now)
    ⊎ ((result ≡ status.WriteFault) × (Rose sinks.out.before sinks.out.now ⊎ Rose sinks.trace.before sinks.trace.now))
