-- What is answered where the words are refused, where the plant is, and where the command has an end.
use Rattle.std.proofs.Common.{◌≡◌, ◌⊎◌, inl, inr, refl, ap, ◌∙◌, subst, ℕ, List, Option, Some, None}
use Rattle.std.proofs.Common.{Result, Ok, Err}
use Rattle.flow_edge.specs.Faults.{Rose}
use Rattle.flow_edge.specs.declared.status.Status.{Status}
use Rattle.flow_edge.specs.declared.status.Status.TheVariants as status
use Rattle.parts.specs.Parts.{FileParts}
use Rattle.flow_top.specs.declared.fault.Stop.{Stop}
use Rattle.flow_top.specs.declared.fault.End.{End}
use Rattle.flow_top.specs.declared.fault.End.TheVariants.{Stopped}
use Rattle.report.specs.declared.fault.TopFault.{TopFault}
use Rattle.report.specs.declared.fault.TopFault.TheVariants as top
use Rattle.flow_top.specs.declared.words.Request.{Request}
use Rattle.flow_top.specs.Words.{request_in}
use Rattle.flow_top.specs.Faults.{status_of, stop_by}
use Rattle.flow_top.specs.Judged.{IsJudged}
use Rattle.flow_top.specs.Course.{Course}
use Rattle.flow_top.specs.Courses.{IsWork}
use Rattle.flow_top.specs.Uses.{SourceUse, SinkUse, Sinks, IsUnwritten}
use Rattle.flow_top.specs.Ended.{Ended, misread, asked, CommandEnded, WorkEnded, course_end, IsRefused, BrokeOff, AreTold, records_for}
use Rattle.flow_top.specs.Ended as ended
use Rattle.flow_top.specs.Stands.{Said, SaidMemory, SaidStop}
use Rattle.flow_top.specs.Causes.{IsEndOn, refusal, course, AnswersOr, AnswersUnlessRead, AnswersUnlessFailed}
use Rattle.flow_top.proofs.Courses.{AreOne}
use Rattle.flow_top.specs.Courses.{ReadsPlant}
use Rattle.flow_top.specs.Ended.{HasParts}
use Rattle.flow_top.specs.Causes.{IsGiven}
use Rattle.flow_top.proofs.Statuses.{read_status, broken_status, broken_rose, broken_count, extra_status}
use Rattle.flow_top.proofs.Ends.{given-unique, end-unique, given-judged, given-parts, given-refusal, end-given}

-- what was said of a stop is answered by its status, or by one that the error line explains
own_or : (stop : Stop) (err : SinkUse) (result : Status) → SaidStop stop err result → AnswersOr stop.status err result
own_or stop err result (inl (inl s)) = inl s.1
own_or stop err result (inl (inr s)) = inr (inl (s.1, s.0.fault))
own_or stop err result (inr s) = elim s.1 [ inl m ↦ inr (inr m.1) | inr m ↦ inr (inl (m.1, m.0.fault)) ]

memory_or : (own : Status) (err : SinkUse) (result : Status) → SaidMemory err result → AnswersOr own err result
memory_or own err result (inl s) = inr (inr s.1)
memory_or own err result (inr s) = inr (inl (s.1, s.0.fault))

-- the status of a read fault comes with its count
read_or : (own : Status) (plant : SourceUse) (err : SinkUse) (result : Status) → Rose plant.before plant.now →
    AnswersOr status.ReadFault err result → AnswersUnlessRead own plant err result
read_or own plant err result rose (inl e) = inr (e, rose)
read_or own plant err result rose (inr s) = inl (inr s)

-- where the errors did not fail, want of memory was answered
memory_alone : (err : SinkUse) (result : Status) → SaidMemory err result → ¬ Rose err.before err.now →
    (result ≡ status.Done) ⊎ (result ≡ status.NoMemory)
memory_alone err result (inl s) r = inr s.1
memory_alone err result (inr s) r = absurd (r s.0.fault)

module _ (words : List (List ℕ)) (plant extra : SourceUse) (sinks : Sinks) (err : SinkUse) (result : Status) where
  -- refused words have their status
  pub words-only : (at : ℕ) (ending : Result (Unit {0}) End) → Ended words plant extra sinks ending →
      Said ending err result → request_in words ≡ Err at → AnswersOr status.Words err result
  words-only at ending (misread k w r u o e) said d =
      own_or (record { fault = top.Words k; status = status.Words }) err result (subst (λ x. Said x err result) e said)
  words-only at ending (asked request a e) said d = absurd (cc (a, d))

  module _ (unique : AreOne) (request : Request) where
    abbrev IsEnd : Option Stop → Type 0
    IsEnd end = IsEndOn request.command plant.text (records_for request extra) end

    -- the end on the text of a course, and of a refusal
    course_end_on : (parts : FileParts) (c : Course) (any : Option Stop) → IsEnd any → HasParts request.command plant parts →
        IsWork request.command parts (records_for request extra) c → IsEnd c.stop
    course_end_on parts c any end has work =
        let told = end-given request.command plant.text (records_for request extra) any end in
        course parts c (given-parts request.command plant parts told.0 told.1 has) work refl

    refusal_on : (fault : TopFault) (any : Option Stop) → IsEnd any → ReadsPlant request.command → IsRefused plant fault →
        IsEnd (Some (stop_by request.command fault))
    refusal_on fault any end reads is =
        let told = end-given request.command plant.text (records_for request extra) any end in
        refusal fault (given-refusal request.command plant fault told.0 reads told.1 is) refl

    same_end : (one other : Option Stop) → IsEnd one → IsEnd other → one ≡ other
    same_end one other a b = end-unique unique request.command plant.text (records_for request extra) one other a b

    -- a refused text is answered by its status, but where the source failed
    at_refusal : (fault : TopFault) (ending : Result (Unit {0}) End) → CommandEnded request plant extra sinks ending →
        Said ending err result → IsGiven request.command plant.text (Err fault) → AnswersUnlessRead (status_of request.command fault) plant err result
    at_refusal fault ending (ended.refused f k r u o e) said judged =
        let here = given-refusal request.command plant f (Err fault) k judged r in
        let same : f ≡ fault = cc (given-unique request.command plant.text (Err f) (Err fault) here judged) in
        inl (own_or (stop_by request.command fault) err result
        (subst (λ x. Said x err result) (e ∙ ap (λ f. Err (Stopped (stop_by request.command f))) same) said))
    at_refusal fault ending (ended.failed k rose u o e) said judged =
        let said_read = own_or (stop_by request.command top.ReadPlant) err result (subst (λ x. Said x err result) e said) in
        read_or (status_of request.command fault) plant err result rose
        (subst (λ s. AnswersOr s err result) (read_status request.command) said_read)
    at_refusal fault ending (ended.starved k u o e) said judged =
        inl (memory_or (status_of request.command fault) err result (subst (λ x. Said x err result) e said))
    at_refusal fault ending (ended.worked parts has w blamed unasked) said judged =
        let here = given-parts request.command plant parts (Err fault) judged has in
        absurd (cc (given-unique request.command plant.text (Ok parts) (Err fault) here judged))

    -- a stop has its status, but where a device failed
    broke_or : (own : Status) (c : Course) (fault : TopFault) → BrokeOff c sinks fault →
        AnswersOr (status_of request.command fault) err result → AnswersUnlessFailed own plant extra sinks err result
    broke_or own c fault broke (inl e) = inr (inr (e ∙ broken_status request.command c sinks fault broke, broken_count c sinks fault broke))
    broke_or own c fault broke (inr s) = inl (inl (inr s))

    unread_or : (own : Status) → Rose extra.before extra.now → AnswersOr (status_of request.command top.ReadExtra) err result →
        AnswersUnlessFailed own plant extra sinks err result
    unread_or own rose (inl e) = inr (inl (e ∙ extra_status request.command, rose))
    unread_or own rose (inr s) = inl (inl (inr s))

    at_stop_of_work : (stop : Stop) (parts : FileParts) (ending : Result (Unit {0}) End) → HasParts request.command plant parts →
        WorkEnded request.command parts (records_for request extra) extra sinks ending → Said ending err result →
        IsEnd (Some stop) →
        AnswersUnlessFailed stop.status plant extra sinks err result
    at_stop_of_work stop parts ending says (ended.through c work stood read e) said ends =
        let same = same_end c.stop (Some stop) (course_end_on parts c (Some stop) ends says work) ends in
        inl (inl (own_or stop err result (subst (λ x. Said x err result) (e ∙ ap course_end same) said)))
    at_stop_of_work stop parts ending says (ended.unread c k work stood less rose e) said ends =
        unread_or stop.status rose
        (own_or (stop_by request.command top.ReadExtra) err result (subst (λ x. Said x err result) e said))
    at_stop_of_work stop parts ending says (ended.broken c fault work some broke e) said ends =
        broke_or stop.status c fault broke
        (own_or (stop_by request.command fault) err result (subst (λ x. Said x err result) e said))
    at_stop_of_work stop parts ending says (ended.early o e) said ends =
        inl (inl (memory_or stop.status err result (subst (λ x. Said x err result) e said)))
    at_stop_of_work stop parts ending says (ended.within c k work stood less e) said ends =
        inl (inl (memory_or stop.status err result (subst (λ x. Said x err result) e said)))

    at_stop : (stop : Stop) (ending : Result (Unit {0}) End) → AreTold request extra → CommandEnded request plant extra sinks ending →
        Said ending err result → IsEnd (Some stop) →
        AnswersUnlessFailed stop.status plant extra sinks err result
    at_stop stop ending records (ended.refused fault k r u o e) said ends =
        let same : stop_by request.command fault ≡ stop =
        cc (same_end (Some (stop_by request.command fault)) (Some stop) (refusal_on fault (Some stop) ends k r) ends) in
        inl (inl (own_or stop err result (subst (λ x. Said x err result) (e ∙ ap (λ s. Err (Stopped s)) same) said)))
    at_stop stop ending records (ended.failed k rose u o e) said ends =
        let said_read = own_or (stop_by request.command top.ReadPlant) err result (subst (λ x. Said x err result) e said) in
        inl (read_or stop.status plant err result rose (subst (λ s. AnswersOr s err result) (read_status request.command) said_read))
    at_stop stop ending records (ended.starved k u o e) said ends =
        inl (inl (memory_or stop.status err result (subst (λ x. Said x err result) e said)))
    at_stop stop ending records (ended.worked parts says w blamed unasked) said ends =
        at_stop_of_work stop parts ending says (w records) said ends

    -- a text on which the command ends with no stop is done, where no device fails and memory is there
    at_end_of_work : (parts : FileParts) (ending : Result (Unit {0}) End) → HasParts request.command plant parts →
        WorkEnded request.command parts (records_for request extra) extra sinks ending → Said ending err result →
        IsEnd None → ¬ Rose extra.before extra.now →
        ¬ Rose sinks.out.before sinks.out.now → ¬ Rose sinks.trace.before sinks.trace.now → ¬ Rose err.before err.now →
        (result ≡ status.Done) ⊎ (result ≡ status.NoMemory)
    at_end_of_work parts ending says (ended.through c work stood read e) said ends x o t r =
        let same = same_end c.stop None (course_end_on parts c None ends says work) ends in
        let s : IsUnwritten err × (result ≡ status.Done) =
        subst (λ x. Said x err result) (e ∙ ap course_end same) said in
        inl s.1
    at_end_of_work parts ending says (ended.unread c k work stood less rose e) said ends x o t r = absurd (x rose)
    at_end_of_work parts ending says (ended.broken c fault work some broke e) said ends x o t r =
        absurd (broken_rose c sinks fault broke o t)
    at_end_of_work parts ending says (ended.early w e) said ends x o t r =
        memory_alone err result (subst (λ x. Said x err result) e said) r
    at_end_of_work parts ending says (ended.within c k work stood less e) said ends x o t r =
        memory_alone err result (subst (λ x. Said x err result) e said) r

    at_whole : (ending : Result (Unit {0}) End) → AreTold request extra → CommandEnded request plant extra sinks ending →
        Said ending err result → IsEnd None →
        ¬ Rose plant.before plant.now → ¬ Rose extra.before extra.now → ¬ Rose sinks.out.before sinks.out.now →
        ¬ Rose sinks.trace.before sinks.trace.now → ¬ Rose err.before err.now →
        (result ≡ status.Done) ⊎ (result ≡ status.NoMemory)
    at_whole ending records (ended.refused fault k d u w e) said ends p x o t r =
        absurd (cc (same_end (Some (stop_by request.command fault)) None (refusal_on fault None ends k d) ends))
    at_whole ending records (ended.failed k rose u w e) said ends p x o t r = absurd (p rose)
    at_whole ending records (ended.starved k u w e) said ends p x o t r =
        memory_alone err result (subst (λ x. Said x err result) e said) r
    at_whole ending records (ended.worked parts says w blamed unasked) said ends p x o t r =
        at_end_of_work parts ending says (w records) said ends x o t r

  -- the request whose work ended is the one that was asked for
  this_request : (request k : Request) (ending : Result (Unit {0}) End) → request_in words ≡ Ok request →
      request_in words ≡ Ok k → CommandEnded k plant extra sinks ending → CommandEnded request plant extra sinks ending
  this_request request k ending a b e =
      let same : k ≡ request = cc (a, b) in subst (λ r. CommandEnded r plant extra sinks ending) same e

  pub refused-only : AreOne → (request : Request) (bytes : List ℕ) (fault : TopFault) (ending : Result (Unit {0}) End) →
      Ended words plant extra sinks ending → Said ending err result → request_in words ≡ Ok request →
      ReadsPlant request.command → plant.text ≡ Some bytes → IsJudged bytes (Err fault) →
      AnswersUnlessRead (status_of request.command fault) plant err result
  refused-only unique request bytes fault ending (misread at w r u o e) said a k t judged = absurd (cc (a, w))
  refused-only unique request bytes fault ending (asked other b e) said a k t judged =
      at_refusal unique request fault ending (this_request request other ending a b e) said
      (given-judged request.command plant.text bytes (Err fault) k t judged)

  pub stopped-only : AreOne → (request : Request) (stop : Stop) (ending : Result (Unit {0}) End) →
      Ended words plant extra sinks ending → Said ending err result → request_in words ≡ Ok request →
      AreTold request extra → IsEndOn request.command plant.text (records_for request extra) (Some stop) →
      AnswersUnlessFailed stop.status plant extra sinks err result
  stopped-only unique request stop ending (misread at w r u o e) said a records ends = absurd (cc (a, w))
  stopped-only unique request stop ending (asked k b e) said a records ends =
      at_stop unique request stop ending records (this_request request k ending a b e) said ends

  pub complete : AreOne → (request : Request) (ending : Result (Unit {0}) End) →
      Ended words plant extra sinks ending → Said ending err result → request_in words ≡ Ok request →
      AreTold request extra → IsEndOn request.command plant.text (records_for request extra) None →
      ¬ Rose plant.before plant.now → ¬ Rose extra.before extra.now → ¬ Rose sinks.out.before sinks.out.now →
      ¬ Rose sinks.trace.before sinks.trace.now → ¬ Rose err.before err.now →
      (result ≡ status.Done) ⊎ (result ≡ status.NoMemory)
  complete unique request ending (misread at w r u still e) said a records ends p x o q s = absurd (cc (a, w))
  complete unique request ending (asked k b e) said a records ends p x o q s =
      at_whole unique request ending records (this_request request k ending a b e) said ends p x o q s
