-- How the work on a plant ends, from what its pieces gave.
use Rattle.std.proofs.Common.{◌≡◌, ◌≢◌, refl, sym, ap, ◌∙◌, subst, ℕ, ◌<◌, ◌≤◌, List, [], ◌++◌, Option, None}
use Rattle.std.proofs.Common.{Result, Ok, Err, IsErrAnd, arith}
use Rattle.flow_edge.specs.Sink.{Gives, GivesFront}
use Rattle.parts.specs.Parts.{FileParts}
use Rattle.flow_top.specs.declared.words.Command.{Command}
use Rattle.flow_top.specs.declared.words.Command.TheVariants.{Run, Direct, Check, Demo}
use Rattle.flow_top.specs.declared.words.Request.{Request}
use Rattle.flow_top.specs.declared.fault.End.{End}
use Rattle.flow_top.specs.declared.fault.End.TheVariants.{Stopped, NoMemory}
use Rattle.report.specs.declared.fault.TopFault.TheVariants.{WriteOut}
use Rattle.flow_top.specs.Course.{Course, text_of}
use Rattle.flow_top.specs.Courses.{ReadsPlant, IsWork}
use Rattle.flow_top.specs.Uses.{SourceUse, SinkUse, Sinks, IsUntouched, IsUnwritten, AreUnwritten}
use Rattle.flow_top.specs.Ended.{TraceStood, TraceFront, output, SaysParts, HasParts, WorkEnded, through, broken, within, course_end, CommandEnded, refused, failed, starved}
use Rattle.flow_top.specs.Steps.{PieceEnded, PlantEnded, refusal, failure}
use Rattle.flow_top.proofs.Writes.{front-longer, front-after, both-given, rose-later, given-none}

-- an error that is this end
pub this-end : (r : Result (Unit {0}) End) (end : End) → IsErrAnd r (λ e. e ≡ end) → r ≡ Err end
this-end (Ok done) end h = absurd h
this-end (Err e) end h = ap Err h

module _ (command : Command) (parts : FileParts) (course : Course) (header rows : List ℕ) (extra : SourceUse) (trace : SinkUse)
    (work : IsWork command parts None course) (untraced : course.trace ≡ None) (unwritten : IsUnwritten trace) where
  stood_none : (k : ℕ) → TraceStood course.trace k trace
  stood_none k = subst (λ t. TraceStood t k trace) (sym untraced) unwritten

  front_none : TraceFront course.trace course.windows trace
  front_none = subst (λ t. TraceFront t course.windows trace) (sym untraced) unwritten

  -- the first piece of a course's text failed
  broke : (end : End) (out : SinkUse) → text_of course ≡ header ++ rows → header ++ rows ≢ [] →
      PieceEnded command WriteOut (Err end) out header →
      WorkEnded command parts None extra (record { out = out; trace = trace }) (Err end)
  broke (Stopped stop) out text some e =
      let all = subst (λ t. GivesFront out.had out.has t) (sym text) (front-longer out.had out.has header rows e.0.front) in
      broken course WriteOut work (λ none. some (sym text ∙ none)) (output (record { front = all; fault = e.0.fault }) front_none)
      (ap (λ s. Err (Stopped s)) e.1)
  broke NoMemory out text some e = absurd e

  pub first-broke : (result : Result (Unit {0}) End) (end : End) (out : SinkUse) → result ≡ Err end →
      text_of course ≡ header ++ rows → header ++ rows ≢ [] → PieceEnded command WriteOut (Err end) out header →
      WorkEnded command parts None extra (record { out = out; trace = trace }) result
  first-broke result end out same text some e =
      subst (λ r. WorkEnded command parts None extra (record { out = out; trace = trace }) r) (sym same) (broke end out text some e)

  -- memory ran out after the header
  pub header-stands : (result : Result (Unit {0}) End) (out : SinkUse) → result ≡ Err NoMemory →
      course.header ≡ header → header ≢ [] → 0 < course.windows →
      Gives out.had out.has header → WorkEnded command parts None extra (record { out = out; trace = trace }) result
  header-stands result out e same some more g =
      within course 0 work (record {
        few = omega arith;
        output = subst (λ t. Gives out.had out.has t) (sym same) g;
        trace = stood_none 0;
        silent = λ none. absurd (some (sym same ∙ none));
      }) (λ whole. more) e

  -- the second piece, after the first was given
  pub second-ended : (had mid has : Option (List ℕ)) (before between now : ℕ) (result : Result (Unit {0}) End) →
      text_of course ≡ header ++ rows → header ++ rows ≢ [] → course.stop ≡ None →
      Gives had mid header → before ≤ between →
      PieceEnded command WriteOut result (record { had = mid; has = has; before = between; now = now }) rows →
      WorkEnded command parts None extra
      (record { out = record { had = had; has = has; before = before; now = now }; trace = trace }) result
  second-ended had mid has before between now (Ok done) text some whole first counted e =
      let all = subst (λ t. Gives had has t) (sym text) (both-given had mid has header rows first e) in
      through course work (record {
        few = omega arith;
        output = all;
        trace = stood_none course.windows;
        silent = λ none. absurd (some (sym text ∙ none));
      }) (λ none. tt) (ap course_end (sym whole))
  second-ended had mid has before between now (Err (Stopped stop)) text some whole first counted e =
      let all = subst (λ t. GivesFront had has t) (sym text) (front-after had mid has header rows first e.0.front) in
      broken course WriteOut work (λ none. some (sym text ∙ none))
      (output (record { front = all; fault = rose-later before between now counted e.0.fault }) front_none)
      (ap (λ s. Err (Stopped s)) e.1)
  second-ended had mid has before between now (Err NoMemory) text some whole first counted e = absurd e

-- where all is one window that has no header, and its rows are written or not
pub only-ended : (command : Command) (parts : FileParts) (course : Course) (rows : List ℕ) (extra : SourceUse) (out trace : SinkUse)
    (result : Result (Unit {0}) End) → IsWork command parts None course → course.trace ≡ None → IsUnwritten trace →
    text_of course ≡ rows → rows ≢ [] → course.stop ≡ None → PieceEnded command WriteOut result out rows →
    WorkEnded command parts None extra (record { out = out; trace = trace }) result
only-ended command parts course rows extra out trace result work untraced still text some whole e =
    second-ended command parts course [] rows extra trace work untraced still out.had out.had out.has out.before out.before out.now result
    text some whole (given-none out.had) (omega arith) e

-- parts that a text says are those of a command that reads a plant
pub read-parts : (command : Command) (plant : SourceUse) (parts : FileParts) → ReadsPlant command → SaysParts plant parts →
    HasParts command plant parts
read-parts Run plant parts reads says = says
read-parts Direct plant parts reads says = says
read-parts Check plant parts reads says = says
read-parts (Demo stages) plant parts reads says = absurd reads

-- a command that ends without a plant
pub plantless-ended : (request : Request) (end : End) (plant extra : SourceUse) (sinks : Sinks) → ReadsPlant request.command →
    IsUntouched extra → AreUnwritten sinks →
    PlantEnded request.command (Err end) plant → CommandEnded request plant extra sinks (Err end)
plantless-ended request (Stopped stop) plant extra sinks reads unread still (refusal fault r e) =
    refused fault reads r unread still (ap (λ s. Err (Stopped s)) e)
plantless-ended request (Stopped stop) plant extra sinks reads unread still (failure rose e) =
    failed reads rose unread still (ap (λ s. Err (Stopped s)) e)
plantless-ended request NoMemory plant extra sinks reads unread still h = starved reads unread still refl
