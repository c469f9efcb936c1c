-- The cause of each status, from how the work ended and what was said of it.
use Rattle.std.proofs.Common.{◌≡◌, ◌⊎◌, inl, inr, refl, sym, subst, ℕ, List, None}
use Rattle.std.proofs.Common.{Result, Ok, Err}
use Rattle.flow_edge.specs.declared.status.Status.{Status}
use Rattle.flow_edge.specs.declared.status.Status.TheVariants as status
use Rattle.parts.specs.Parts.{FileParts}
use Rattle.flow_top.specs.declared.fault.Stop.{Stop}
use Rattle.flow_top.specs.declared.fault.End.{End}
use Rattle.flow_top.specs.declared.fault.End.TheVariants.{Stopped, NoMemory}
use Rattle.report.specs.declared.fault.TopFault.{TopFault}
use Rattle.report.specs.declared.fault.TopFault.TheVariants as top
use Rattle.flow_top.specs.declared.words.Request.{Request}
use Rattle.flow_top.specs.Words.{request_in}
use Rattle.flow_top.specs.Faults.{status_of, stop_by}
use Rattle.report.specs.Lines.{fault_line, constant_line, memory_line}
use Rattle.flow_top.specs.Uses.{SourceUse, SinkUse, Sinks, IsUntouched, AreUnwritten, WasGiven, Broke}
use Rattle.flow_top.specs.Ended.{Ended, misread, asked, CommandEnded, WorkEnded, IsRefused, AreTold, records_for, IsBlamed}
use Rattle.flow_top.specs.Ended as ended
use Rattle.flow_top.specs.Stands.{Said, SaidMemory, SaidStop}
use Rattle.flow_top.specs.Causes.{TellsRecords, WroteSome, SaysRefusal, CauseSaid, Cause}
use Rattle.flow_top.specs.Courses.{ReadsPlant}
use Rattle.flow_top.specs.Ended.{HasParts}
use Rattle.flow_top.proofs.Statuses.{kind-refused, refusal_status, read_status, kind_of}
use Rattle.flow_top.proofs.AtWork.{wrote-all, wrote-some, wrote-before, stop-said}

module _ (words : List (List ℕ)) (plant extra : SourceUse) (sinks : Sinks) (err : SinkUse) (result : Status) where
  -- what is said of a status in its line is its cause
  as_cause : (own : Status) → CauseSaid own words plant extra sinks err → Cause own words plant extra sinks err
  as_cause status.Done h = h
  as_cause status.Words h = h
  as_cause status.Refused h = h
  as_cause status.Wide h = h
  as_cause status.ReadFault h = h
  as_cause status.WriteFault h = inl h
  as_cause status.NoMemory h = h
  as_cause status.No h = h

  -- the cause where the errors failed in the midst of a line
  unheard : (own : Status) (line : List ℕ) → Broke err line → result ≡ status.WriteFault →
      ((to : SinkUse) → WasGiven to line → CauseSaid own words plant extra sinks to) → Cause result words plant extra sinks err
  unheard own line broke e said =
      subst (λ r. Cause r words plant extra sinks err) (sym e) (inr (record { own = own; line = line; broke = broke; instead = said }))

  -- the cause of what is answered where memory runs out
  by_memory : SaidMemory err result → (TellsRecords words extra → AreUnwritten sinks ⊎ WroteSome words plant extra sinks) →
      Cause result words plant extra sinks err
  by_memory (inl s) stood = subst (λ r. Cause r words plant extra sinks err) (sym s.1) (record { line = s.0; output = stood })
  by_memory (inr s) stood = unheard status.NoMemory memory_line s.0 s.1 (λ to g. record { line = g; output = stood })

  -- the cause of what is answered at a stop
  by_stop : (stop : Stop) → SaidStop stop err result →
      ((to : SinkUse) → WasGiven to (fault_line stop.fault) → CauseSaid stop.status words plant extra sinks to) →
      (constant_line stop.fault ≡ None → TellsRecords words extra → AreUnwritten sinks ⊎ WroteSome words plant extra sinks) →
      Cause result words plant extra sinks err
  by_stop stop (inl (inl s)) own stood =
      subst (λ r. Cause r words plant extra sinks err) (sym s.1) (as_cause stop.status (own err s.0))
  by_stop stop (inl (inr s)) own stood = unheard stop.status (fault_line stop.fault) s.0 s.1 own
  by_stop stop (inr s) own stood = by_memory s.1 (stood s.0)

  -- what is said where the plant is refused
  says_refusal : (own : Status) (request : Request) (fault : TopFault) (to : SinkUse) → request_in words ≡ Ok request →
      ReadsPlant request.command → IsRefused plant fault → IsUntouched extra → AreUnwritten sinks → status_of request.command fault ≡ own →
      WasGiven to (fault_line fault) → SaysRefusal own words plant extra sinks to
  says_refusal own request fault to a k r u o s g = record {
    request = request;
    fault = fault;
    asked = a;
    reads = k;
    refused = r.text;
    status = s;
    line = g;
    unread = u;
    silent = o;
  }

  -- the cause where the plant is refused
  by_refusal : (request : Request) (fault : TopFault) → request_in words ≡ Ok request → ReadsPlant request.command → IsRefused plant fault →
      IsUntouched extra → AreUnwritten sinks → SaidStop (stop_by request.command fault) err result → Cause result words plant extra sinks err
  by_refusal request fault a k r u o said =
      by_stop (stop_by request.command fault) said
      (λ to g. elim (refusal_status request.command fault (kind-refused fault r.kind)) [
        | inl s ↦ subst (λ t. CauseSaid t words plant extra sinks to) (sym s)
            (inl (says_refusal status.Refused request fault to a k r u o s g))
        | inr s ↦ subst (λ t. CauseSaid t words plant extra sinks to) (sym s) (says_refusal status.No request fault to a k r u o s g)
      ]) (λ none told. inl o)

  -- the cause at each end of the work on a plant
  by_work : (request : Request) (parts : FileParts) (ending : Result (Unit {0}) End) → request_in words ≡ Ok request →
      HasParts request.command plant parts → (AreTold request extra → WorkEnded request.command parts (records_for request extra) extra sinks ending) →
      IsBlamed request.command ending extra sinks → (request.feeds ≡ None → IsUntouched extra) → Said ending err result →
      Cause result words plant extra sinks err
  by_work request parts (Ok done) a says work blamed unasked said =
      subst (λ r. Cause r words plant extra sinks err) (sym said.1)
      (λ tells. wrote-all words plant extra sinks request a parts says unasked (Ok done) (work (tells request a)) refl, said.0)
  by_work request parts (Err NoMemory) a says work blamed unasked said =
      by_memory said (λ tells. wrote-some words plant extra sinks request a parts says unasked (Err NoMemory) (work (tells request a)) refl)
  by_work request parts (Err (Stopped stop)) a says work blamed unasked said =
      by_stop stop said
      (stop-said words plant extra sinks request a parts says unasked (λ tells. tells request a) (Err (Stopped stop)) stop work refl blamed.0
      (kind_of request.command stop.fault extra sinks blamed.1))
      (λ none tells. wrote-before words plant extra sinks request a parts says unasked (Err (Stopped stop)) stop (work (tells request a)) refl none)

  -- the cause at each end of a command
  by_command : (request : Request) (ending : Result (Unit {0}) End) → request_in words ≡ Ok request →
      CommandEnded request plant extra sinks ending → Said ending err result → Cause result words plant extra sinks err
  by_command request ending a (ended.refused fault k r u o e) said =
      by_refusal request fault a k r u o (subst (λ x. Said x err result) e said)
  by_command request ending a (ended.failed k rose u o e) said =
      by_stop (stop_by request.command top.ReadPlant) (subst (λ x. Said x err result) e said)
      (λ to g. subst (λ s. CauseSaid s words plant extra sinks to) (sym (read_status request.command))
      (inl (record { fault = rose; line = g; silent = o })))
      (λ none told. inl o)
  by_command request ending a (ended.starved k u o e) said =
      by_memory (subst (λ x. Said x err result) e said) (λ told. inl o)
  by_command request ending a (ended.worked parts says work blamed unasked) said = by_work request parts ending a says work blamed unasked said

  -- the cause of what is answered
  cause : (ending : Result (Unit {0}) End) → Ended words plant extra sinks ending → Said ending err result →
      Cause result words plant extra sinks err
  cause ending (misread at w r u o e) said =
      by_stop (record { fault = top.Words at; status = status.Words }) (subst (λ x. Said x err result) e said)
      (λ to g. record { at = at; refused = w; line = g; unread = r; unread_records = u; silent = o }) (λ none told. inl o)
  cause ending (asked request a e) said = by_command request ending a e said

  pub caused : (own : Status) (ending : Result (Unit {0}) End) → Ended words plant extra sinks ending → Said ending err result →
      result ≡ own → Cause own words plant extra sinks err
  caused own ending e said d = subst (λ s. Cause s words plant extra sinks err) d (cause ending e said)
