-- What a command at work on a plant wrote and said, by how its work ended.
use Rattle.std.proofs.Common.{◌≡◌, ◌⊎◌, inl, inr, refl, sym, ap, ◌∙◌, subst, ℕ, ◌<◌, List, Option, Some, None}
use Rattle.std.proofs.Common.{Result, Ok, Err}
use Rattle.flow_edge.specs.declared.status.Status.{Status}
use Rattle.flow_edge.specs.declared.status.Status.TheVariants as status
use Rattle.parts.specs.Parts.{FileParts}
use Rattle.flow_top.specs.declared.words.Command.{Command}
use Rattle.flow_top.specs.declared.fault.Stop.{Stop}
use Rattle.flow_top.specs.declared.fault.End.{End}
use Rattle.flow_top.specs.declared.fault.End.TheVariants.{Stopped, NoMemory}
use Rattle.report.specs.declared.fault.TopFault.TheVariants as top
use Rattle.flow_top.specs.declared.words.Request.{Request}
use Rattle.flow_top.specs.Words.{request_in}
use Rattle.flow_top.specs.Faults.{own_status, stop_by}
use Rattle.flow_top.specs.Course.{Course}
use Rattle.flow_top.specs.Courses.{IsWork}
use Rattle.report.specs.Lines.{fault_line, constant_line}
use Rattle.flow_top.specs.Uses.{SourceUse, SinkUse, Sinks, IsUntouched, AreUnwritten, WasGiven}
use Rattle.flow_top.specs.Ended.{asked, WorkEnded, course_end, Stood, AreTold, records_for}
use Rattle.flow_top.specs.Ended as ended
use Rattle.flow_top.specs.Causes.{TellsRecords, IsAtWork, WroteAll, WroteSome, WroteFront, SaysStop, CauseSaid}
use Rattle.flow_top.specs.WindowsCourse.{end_of}
use Rattle.flow_top.proofs.Courses.{StopsBy, course-stops, wide_status}
use Rattle.flow_top.proofs.Refusals.{record-refused, feed-status}
use Rattle.flow_top.specs.Ended.{HasParts}
use Rattle.flow_top.proofs.Statuses.{broken_status, broken_line, refuses, widens, fails, breaks, extra_status, StopKind}

-- how a course ends says whether it has a stop
no-stop : (stop : Option Stop) → course_end stop ≡ Ok tt → stop ≡ None
no-stop None e = refl
no-stop (Some stop) e = absurd (cc e)

the-stop : (found : Option Stop) (stop : Stop) → course_end found ≡ Err (Stopped stop) → found ≡ Some stop
the-stop None stop e = absurd (cc e)
the-stop (Some other) stop e = let same : other ≡ stop = cc e in ap Some same

no-memory : (stop : Option Stop) → course_end stop ≡ Err NoMemory → ⊥
no-memory None e = cc e
no-memory (Some stop) e = cc e

same-stop : (a b : Stop) (one other : Result (Unit {0}) End) → one ≡ Err (Stopped a) → one ≡ Err (Stopped b) → a ≡ b
same-stop a b one other e d = cc (e, d)

-- the stop of a course is a refused record or a band that is too wide
course-status : (command : Command) (parts : FileParts) (records : Option (List ℕ)) (w : ℕ) (stop : Stop) →
    StopsBy command parts records w stop → (stop.status ≡ status.Refused) ⊎ (stop.status ≡ status.Wide)
course-status command parts records w stop (inl by) =
    let known = record-refused parts records (end_of parts w) by.found by.taken in
    let same : known.fault ≡ by.fault = cc (known.same, by.fault_is) in
    inl (ap (λ (s : Stop). s.status) by.stop_is ∙ feed-status command by.found by.fault by.fault_is
    ∙ ap own_status (sym same) ∙ known.status_is)
course-status command parts records w stop (inr by) =
    inr (ap (λ (s : Stop). s.status) by.stop_is ∙ wide_status command parts by.place)

-- the ends of the work of a request on a plant, where its records are told
module _ (words : List (List ℕ)) (plant extra : SourceUse) (sinks : Sinks) (request : Request) (asks : request_in words ≡ Ok request)
    (parts : FileParts) (has : HasParts request.command plant parts) (unasked : request.feeds ≡ None → IsUntouched extra) where
  abbrev at_work : (c : Course) → IsWork request.command parts (records_for request extra) c → IsAtWork words plant extra
  at_work c work = record {
    request = request;
    parts = parts;
    course = c;
    asked = asks;
    has = has;
    work = work;
    unasked = unasked;
  }

  abbrev Work : Result (Unit {0}) End → Type 0
  Work ending = WorkEnded request.command parts (records_for request extra) extra sinks ending

  abbrev some_at : (c : Course) (work : IsWork request.command parts (records_for request extra) c) (k : ℕ) → Stood c k sinks →
      (c.stop ≡ None → k < c.windows) → WroteSome words plant extra sinks
  some_at c work k stood less = record {
    at = at_work c work;
    windows = k;
    few = stood.few;
    fewer = less;
    output = stood.output;
    trace = stood.trace;
  }

  pub wrote-all : (ending : Result (Unit {0}) End) → Work ending → ending ≡ Ok tt → WroteAll words plant extra sinks
  wrote-all ending (ended.through c work stood read e) d =
      let whole = no-stop c.stop (sym e ∙ d) in
      record { at = at_work c work; records = read whole; whole = whole; output = stood.output; trace = stood.trace }
  wrote-all ending (ended.unread c k work stood less rose e) d = absurd (cc (e, d))
  wrote-all ending (ended.broken c fault work some broke e) d = absurd (cc (e, d))
  wrote-all ending (ended.early o e) d = absurd (cc (e, d))
  wrote-all ending (ended.within c k work stood less e) d = absurd (cc (e, d))

  pub wrote-some : (ending : Result (Unit {0}) End) → Work ending → ending ≡ Err NoMemory →
      AreUnwritten sinks ⊎ WroteSome words plant extra sinks
  wrote-some ending (ended.through c work stood read e) d = absurd (no-memory c.stop (sym e ∙ d))
  wrote-some ending (ended.unread c k work stood less rose e) d = absurd (cc (e, d))
  wrote-some ending (ended.broken c fault work some broke e) d = absurd (cc (e, d))
  wrote-some ending (ended.early o e) d = inl o
  wrote-some ending (ended.within c k work stood less e) d = inr (some_at c work k stood less)

  -- at a stop whose line takes memory
  pub wrote-before : (ending : Result (Unit {0}) End) (stop : Stop) → Work ending → ending ≡ Err (Stopped stop) →
      constant_line stop.fault ≡ None → AreUnwritten sinks ⊎ WroteSome words plant extra sinks
  wrote-before ending stop (ended.through c work stood read e) d none =
      let same = the-stop c.stop stop (sym e ∙ d) in inr (some_at c work c.windows stood (λ whole. absurd (cc (same, whole))))
  wrote-before ending stop (ended.unread c k work stood less rose e) d none = inr (some_at c work k stood less)
  wrote-before ending stop (ended.broken c fault work some broke e) d none =
      let same : stop_by request.command fault ≡ stop = same-stop _ _ ending ending e d in
      absurd (broken_line c sinks fault broke (ap (λ (s : Stop). constant_line s.fault) same ∙ none))
  wrote-before ending stop (ended.early o e) d none = absurd (cc (e, d))
  wrote-before ending stop (ended.within c k work stood less e) d none = absurd (cc (e, d))

  -- at the stop of a course
  says-stop : (own : Status) (ending : Result (Unit {0}) End) (stop : Stop) (to : SinkUse) → (own ≡ status.ReadFault → ⊥) →
      (own ≡ status.WriteFault → ⊥) → stop ≡ stop_by request.command stop.fault → stop.status ≡ own →
      WasGiven to (fault_line stop.fault) → Work ending → ending ≡ Err (Stopped stop) → SaysStop own words plant extra sinks to
  says-stop own ending stop to unread unbroken is by given (ended.through c work stood read e) d = record {
    at = at_work c work;
    fault = stop.fault;
    stop = the-stop c.stop stop (sym e ∙ d) ∙ ap Some is;
    status = sym (ap (λ (s : Stop). s.status) is) ∙ by;
    output = stood.output;
    trace = stood.trace;
    line = given;
  }
  says-stop own ending stop to unread unbroken is by given (ended.unread c k work stood less rose e) d =
      let same : stop_by request.command top.ReadExtra ≡ stop = same-stop _ _ ending ending e d in
      absurd (unread (sym by ∙ ap (λ (s : Stop). s.status) (sym same) ∙ extra_status request.command))
  says-stop own ending stop to unread unbroken is by given (ended.broken c fault work some broke e) d =
      let same : stop_by request.command fault ≡ stop = same-stop _ _ ending ending e d in
      absurd (unbroken (sym by ∙ ap (λ (s : Stop). s.status) (sym same) ∙ broken_status request.command c sinks fault broke))
  says-stop own ending stop to unread unbroken is by given (ended.early o e) d = absurd (cc (e, d))
  says-stop own ending stop to unread unbroken is by given (ended.within c k work stood less e) d = absurd (cc (e, d))

  -- no course stops by a device
  no-device : (c : Course) (stop : Stop) → IsWork request.command parts (records_for request extra) c → c.stop ≡ Some stop →
      (stop.status ≡ status.Refused → ⊥) → (stop.status ≡ status.Wide → ⊥) → ⊥
  no-device c stop work e unrefused narrow =
      elim (course-status request.command parts (records_for request extra) c.windows stop
      (course-stops request.command parts (records_for request extra) c stop work.follows e)) [
        | inl r ↦ unrefused r
        | inr w ↦ narrow w
      ]

  -- where the records could not be read
  wrote-unread : (ending : Result (Unit {0}) End) (stop : Stop) → stop.status ≡ status.ReadFault → Work ending →
      ending ≡ Err (Stopped stop) → WroteSome words plant extra sinks
  wrote-unread ending stop by (ended.through c work stood read e) d =
      absurd (no-device c stop work (the-stop c.stop stop (sym e ∙ d)) (λ r. cc (r, by)) (λ w. cc (w, by)))
  wrote-unread ending stop by (ended.unread c k work stood less rose e) d = some_at c work k stood less
  wrote-unread ending stop by (ended.broken c fault work some broke e) d =
      let same : stop_by request.command fault ≡ stop = same-stop _ _ ending ending e d in
      let broken = ap (λ (s : Stop). s.status) (sym same) ∙ broken_status request.command c sinks fault broke in absurd (cc (broken, by))
  wrote-unread ending stop by (ended.early o e) d = absurd (cc (e, d))
  wrote-unread ending stop by (ended.within c k work stood less e) d = absurd (cc (e, d))

  -- where a sink failed
  wrote-front : (ending : Result (Unit {0}) End) (stop : Stop) → stop.status ≡ status.WriteFault → Work ending →
      ending ≡ Err (Stopped stop) → WroteFront stop.fault words plant extra sinks
  wrote-front ending stop by (ended.through c work stood read e) d =
      absurd (no-device c stop work (the-stop c.stop stop (sym e ∙ d)) (λ r. cc (r, by)) (λ w. cc (w, by)))
  wrote-front ending stop by (ended.unread c k work stood less rose e) d =
      let same : stop_by request.command top.ReadExtra ≡ stop = same-stop _ _ ending ending e d in
      let read = ap (λ (s : Stop). s.status) (sym same) ∙ extra_status request.command in absurd (cc (read, by))
  wrote-front ending stop by (ended.broken c fault work some broke e) d =
      let same : stop_by request.command fault ≡ stop = same-stop _ _ ending ending e d in
      subst (λ f. WroteFront f words plant extra sinks) (ap (λ (s : Stop). s.fault) same) (record { at = at_work c work; broke = broke })
  wrote-front ending stop by (ended.early o e) d = absurd (cc (e, d))
  wrote-front ending stop by (ended.within c k work stood less e) d = absurd (cc (e, d))

  -- what is said at a stop
  pub stop-said : (tells : TellsRecords words extra → AreTold request extra) (ending : Result (Unit {0}) End) (stop : Stop) →
      (AreTold request extra → Work ending) → ending ≡ Err (Stopped stop) → stop ≡ stop_by request.command stop.fault →
      StopKind request.command stop.fault extra sinks → (to : SinkUse) → WasGiven to (fault_line stop.fault) →
      CauseSaid stop.status words plant extra sinks to
  stop-said tells ending stop work e is (refuses s) to given =
      let by = ap (λ (s : Stop). s.status) is ∙ s in
      subst (λ t. CauseSaid t words plant extra sinks to) (sym by)
      (inr (λ told. says-stop status.Refused ending stop to (λ x. cc x) (λ x. cc x) is by given (work (tells told)) e))
  stop-said tells ending stop work e is (widens s) to given =
      let by = ap (λ (s : Stop). s.status) is ∙ s in
      subst (λ t. CauseSaid t words plant extra sinks to) (sym by)
      (λ told. says-stop status.Wide ending stop to (λ x. cc x) (λ x. cc x) is by given (work (tells told)) e)
  stop-said tells ending stop work e is (fails s named rose) to given =
      let by = ap (λ (s : Stop). s.status) is ∙ s in
      subst (λ t. CauseSaid t words plant extra sinks to) (sym by) (inr (record {
        fault = rose;
        line = subst (λ f. WasGiven to (fault_line f)) named given;
        output = λ told. wrote-unread ending stop by (work (tells told)) e;
      }))
  stop-said tells ending stop work e is (breaks s failed) to given =
      let by = ap (λ (s : Stop). s.status) is ∙ s in
      subst (λ t. CauseSaid t words plant extra sinks to) (sym by) (record {
        fault = stop.fault;
        failed = failed;
        front = λ told. wrote-front ending stop by (work (tells told)) e;
        line = given;
      })
