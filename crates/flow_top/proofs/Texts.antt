-- The texts of a window, from what was made of it.
use Rattle.std.proofs.Common.{◌≡◌, ◌∙◌, ◌⊎◌, inl, inr, ℕ, zero, suc, ◌+◌, ◌-◌, ◌*◌, ◌<◌, ◌≤◌, min, List, [], ◌∷◌, length, slice_index_or, refl, sym, ap, subst, arith}
use Rattle.std.proofs.Common.{Bool, true, false, Option, Some, None, ℤ, Result, Ok, Err, IsErrAnd}
use Rattle.std.proofs.lemmas.List.{length-map}
use Rattle.quant.specs.Interval.{Interval}
use Rattle.flow_edge.specs.Faults.{Rose}
use Rattle.relaxation.specs.Tube.{at}
use Rattle.parts.specs.Parts.{FileParts}
use Rattle.parts.specs.declared.parts.Widths.{Widths}
use Rattle.plant_streams.specs.Streams.{streams_of}
use Rattle.tables.specs.Output.{channels, rows_of}
use Rattle.feeds.specs.declared.reader.FeedFault.{FeedFault}
use Rattle.feeds.specs.declared.reader.FeedFault.TheVariants.{ReadFault}
use Rattle.feeds.specs.Given.{run_plan, given_by, refusal_by}
use Rattle.feeds.specs.Reader.{IsFailure}
use Rattle.feeds.specs.ReaderOf.{ReaderOf, Feeding}
use Rattle.relax_core.specs.Settled.{WindowOf, bands_in}
use Rattle.report.specs.Output.{labels_of, output_rows}
use Rattle.window_accept.specs.declared.wide.TooWide.{TooWide}
use Rattle.window_accept.specs.declared.end.WindowEnd.{WindowEnd}
use Rattle.window_accept.specs.declared.end.WindowEnd.TheVariants.{Wide}
use Rattle.window_accept.specs.declared.end.WindowEnd.TheVariants as window_end
use Rattle.window_accept.specs.Wide.{asked_of, is_signal, IsTooWide, IsFirstWide}
use Rattle.window_accept.specs.Session.{SessionOf, next_ticks, next_plan, bands_of_plan, IsReady, IsAlong, IsMadeBy, HasRunAt, NextWindow}
use Rattle.window_accept.specs.Session as session
use Rattle.flow_top.specs.declared.fault.End.{End}
use Rattle.flow_top.specs.declared.fault.End.TheVariants.{Stopped, NoMemory}
use Rattle.flow_top.specs.declared.words.Command.{Command}
use Rattle.flow_top.specs.declared.words.Command.TheVariants.{Run, Direct, Check, Demo}
use Rattle.flow_top.specs.declared.making.Texts.{Texts}
use Rattle.flow_top.specs.Words.{writes_trace}
use Rattle.flow_top.specs.Faults.{fault_of_feeds, stop_by}
use Rattle.flow_top.specs.WindowsCourse.{bands_by, first_tick, ticks_in, end_of, window_rows, wide_fault, refused, wide}
use Rattle.flow_top.specs.Steps.{AreSteps, AreTexts, steps_text, AreTextsOf, HasMoved, IsReadWith, WritesBy, TextsEnded, end_by_feeds, NextTexts}
use Rattle.stepping.specs.NextRows.{NextRows}
use Rattle.report.proofs.Labels.{label_of}
use Rattle.report.proofs.Ticks.{rows-same}
use Rattle.flow_top.proofs.Refusals.{record-refused}

one-more : (k window : ℕ) → (k + 1) * window ≡ k * window + window
one-more k window = grind arith

further : (tick window ticks : ℕ) → tick < ticks → tick + min window (ticks - tick) ≡ min (tick + window) ticks
further tick window ticks h = omega (arith, h)

tick-is : (t start first : ℕ) → start ≡ first → first + t - start ≡ t
tick-is t start first e = omega (arith, e)

-- the rows of a window of the run
rows-are : (parts : FileParts) (records : Option (List ℕ)) (w : ℕ) (window : WindowOf) →
    HasRunAt parts records (first_tick parts w) (ticks_in parts w) window → output_rows parts window ≡ window_rows parts records w
rows-are parts records w window is =
    let first = first_tick parts w in
    let n = ticks_in parts w in
    ap (λ first. rows_of (labels_of parts) (bands_in window) first window.ticks) is.first_is
    ∙ ap (rows_of (labels_of parts) (bands_in window) first) is.ticks_are
    ∙ rows-same (labels_of parts) (bands_in window) (bands_by parts records) first n
    (λ t s l m.
    let there : s < length (streams_of parts) = omega (arith, m, length-map (streams_of parts) label_of) in
    ap (λ q. at (slice_index_or window.tubes s []) q) (tick-is t window.first first is.first_is)
    ∙ is.run t s l there)

-- the rows of its steps, where it was relaxed; and none, where it was stepped
steps-are : (relaxes : Bool) (parts : FileParts) (records : Option (List ℕ)) (w : ℕ) (window : WindowOf) →
    IsMadeBy relaxes (run_plan parts (given_by parts records) (first_tick parts w) (ticks_in parts w)) window →
    AreSteps relaxes parts records w (steps_text relaxes parts w window)
steps-are true parts records w window made = (window.steps, made, refl)
steps-are false parts records w window made = refl

-- the texts of a window of the run
pub as-texts : (relaxes : Bool) (parts : FileParts) (records : Option (List ℕ)) (w : ℕ) (window : WindowOf) (texts : Texts) →
    HasRunAt parts records (first_tick parts w) (ticks_in parts w) window →
    IsMadeBy relaxes (run_plan parts (given_by parts records) (first_tick parts w) (ticks_in parts w)) window →
    AreTextsOf relaxes parts w window texts → AreTexts relaxes parts records w texts
as-texts relaxes parts records w window texts run made are = record {
  rows_are = are.rows_are ∙ rows-are parts records w window run;
  steps_are = subst (AreSteps relaxes parts records w) (sym are.steps_are) (steps-are relaxes parts records w window made);
}

-- a session before a window of the run that begins before the last tick
pub at-window : (session : SessionOf) (w : ℕ) → session.tick ≡ min (first_tick session.parts w) session.parts.ticks →
    first_tick session.parts w < session.parts.ticks →
    (session.tick ≡ first_tick session.parts w) × (next_ticks session ≡ ticks_in session.parts w)
at-window session w e left =
    let at : session.tick ≡ first_tick session.parts w = omega (arith, e, left) in
    (at, ap (λ t. min session.parts.window (session.parts.ticks - t)) at)

-- and after it
pub at-next : (session : SessionOf) (tick w : ℕ) → session.tick ≡ first_tick session.parts w →
    first_tick session.parts w < session.parts.ticks → tick ≡ session.tick + next_ticks session →
    tick ≡ min (first_tick session.parts (w + 1)) session.parts.ticks
at-next session tick w at left moved =
    moved ∙ further session.tick session.parts.window session.parts.ticks (omega (arith, at, left))
    ∙ ap (λ t. min t session.parts.ticks)
    (ap (λ t. t + session.parts.window) at ∙ sym (one-more w session.parts.window))

-- what is said of a session's next window is said of this one
pub at-this : (P : ℕ → ℕ → Type 0) (session : SessionOf) (w : ℕ) →
    (session.tick ≡ first_tick session.parts w) × (next_ticks session ≡ ticks_in session.parts w) →
    P session.tick (next_ticks session) → P (first_tick session.parts w) (ticks_in session.parts w)
at-this P session w here h = subst (λ n. P (first_tick session.parts w) n) here.1 (subst (λ first. P first (next_ticks session)) here.0 h)

-- whatever the records say, a session that gave a window is before the next one
pub moved-on : (w : ℕ) (old new : SessionOf) (read : ReaderOf) →
    (old.tick ≡ first_tick old.parts w) × (next_ticks old ≡ ticks_in old.parts w) → first_tick old.parts w < old.parts.ticks →
    new.parts ≡ old.parts → new.tick ≡ old.tick + next_ticks old → new.end ≡ None → IsReady new read → read.fault ≡ None →
    HasMoved w old new read
moved-on w old new read here left same moved unended ready faultless = record {
  same = same;
  before = record {
    tick = subst (λ (parts : FileParts). new.tick ≡ min (first_tick parts (w + 1)) parts.ticks) (sym same)
        (at-next old new.tick w here.0 left moved);
    unended = unended;
    ready = ready;
    faultless = faultless;
  };
}

-- with the last window, the records were read to their end
pub read-with : (relaxes : Bool) (parts : FileParts) (records : Option (List ℕ)) (old new : SessionOf) (reader read : Feeding)
    (window : WindowOf) → ((text : List ℕ) → IsAlong (Some text) old reader → NextWindow relaxes old new reader read (Ok window) →
    new.tick ≡ parts.ticks → read.left ≡ Some []) →
    IsAlong records old reader → NextWindow relaxes old new reader read (Ok window) → IsReadWith parts records new read
read-with relaxes parts None old new reader read window whole along next last = tt
read-with relaxes parts (Some text) old new reader read window whole along next last = whole text along next last

-- what a command writes goes with how its windows are made
pub same-kind : (command : Command) (relaxes : Bool) → WritesBy command relaxes → relaxes ≡ writes_trace command
same-kind Run relaxes w = w
same-kind Direct relaxes w = w
same-kind Check relaxes w = absurd w
same-kind (Demo stages) relaxes w = absurd w

-- a channel for which a width is asked has a name
past-none : (asked : List (Option ℤ)) (c : ℕ) → length asked ≤ c → slice_index_or asked c None ≡ None
past-none [] c far = refl
past-none (a ∷ rest) zero far = absurd (omega (arith, far))
past-none (a ∷ rest) (suc c) far = past-none rest c (omega (arith, far))

as-many : (width : Widths) (signal : Bool) → length (asked_of width signal) ≡ length (channels signal)
unfolding channels
as-many width true = refl
as-many width false = refl

not-none : (asked : Option ℤ) (limit : ℤ) → asked ≡ None → asked ≡ Some limit → ⊥
not-none asked limit e f = cc (e, f)

below-or : (a b : ℕ) → (a < b) ⊎ (b ≤ a)
below-or a b = search arith

pub named-channel : (parts : FileParts) (bands : ℕ → ℕ → List Interval) (place : TooWide) → IsTooWide parts bands place →
    place.channel < length (channels (is_signal parts place.stream))
named-channel parts bands place is =
    let signal = is_signal parts place.stream in
    let asked = asked_of parts.width signal in
    let few : place.channel < length asked = elim (below-or place.channel (length asked)) [
      | inl l ↦ l
      | inr far ↦ absurd (not-none (slice_index_or asked place.channel None) place.limit (past-none asked place.channel far) is.asked)
    ] in
    subst (λ n. place.channel < n) (as-many parts.width signal) few

-- the end of a command by such a band
pub stopped-at : (command : Command) (relaxes : Bool) (parts other : FileParts) (records : Option (List ℕ)) (w : ℕ)
    (session : SessionOf) (feeds read : Feeding) (place : TooWide) (end : End) → other ≡ parts → first_tick parts w < parts.ticks →
    refusal_by parts records (end_of parts w) ≡ None →
    IsFirstWide parts (bands_by parts records) (first_tick parts w) (ticks_in parts w) place →
    (end ≡ Stopped (stop_by command (wide_fault other place))) ⊎ (end ≡ NoMemory) →
    TextsEnded command relaxes parts records w session feeds read (Err end)
stopped-at command relaxes parts other records w session feeds read place end p left taken first (inl e) =
    subst (λ end. TextsEnded command relaxes parts records w session feeds read (Err end))
    (sym (e ∙ ap (λ parts. Stopped (stop_by command (wide_fault parts place))) p)) (inl (wide place left taken first))
stopped-at command relaxes parts other records w session feeds read place end p left taken first (inr e) =
    subst (λ end. TextsEnded command relaxes parts records w session feeds read (Err end)) (sym e) tt

-- and by the fault of a reader: a refused record, a source that failed, or want of memory
pub unfed-at : (command : Command) (relaxes : Bool) (parts : FileParts) (records : Option (List ℕ)) (w : ℕ)
    (session : SessionOf) (feeds read : Feeding) (fault : FeedFault) → first_tick parts w < parts.ticks →
    (refusal_by parts records (end_of parts w) ≡ Some fault) ⊎ IsFailure fault → (fault ≡ ReadFault → Rose feeds.faults read.faults) →
    TextsEnded command relaxes parts records w session feeds read (Err (end_by_feeds command (fault_of_feeds fault)))
unfolding fault_of_feeds
unfed-at command relaxes parts records w session feeds read fault left (inl taken) failed =
    let known = record-refused parts records (end_of parts w) fault taken in
    subst (λ found. TextsEnded command relaxes parts records w session feeds read (Err (end_by_feeds command found))) (sym known.same)
    (inl (refused fault known.fault left taken known.same))
unfed-at command relaxes parts records w session feeds read fault left (inr (inl e)) failed =
    subst (λ f. TextsEnded command relaxes parts records w session feeds read (Err (end_by_feeds command (fault_of_feeds f)))) (sym e)
    (inr (record { rose = failed e; stop_is = refl }))
unfed-at command relaxes parts records w session feeds read fault left (inr (inr e)) failed =
    subst (λ f. TextsEnded command relaxes parts records w session feeds read (Err (end_by_feeds command (fault_of_feeds f)))) (sym e) tt

-- a session that has not ended is stopped by the width of a band that is there
pub wide-there : (relaxes : Bool) (old new : SessionOf) (reader read : Feeding) (place : TooWide) → old.end ≡ None →
    NextWindow relaxes old new reader read (Err (Wide place)) →
    (place.stream < length (streams_of old.parts)) × (place.channel < length (channels (is_signal old.parts place.stream)))
wide-there relaxes old new reader read place unended (session.wide feeds found going asks first e) =
    (first.wide_is.stream, named-channel old.parts (bands_of_plan (next_plan old feeds)) place first.wide_is)
wide-there relaxes old new reader read place unended (session.again end ended still e) = absurd (cc (unended, ended))

-- a session keeps its plant
pub same-parts : (relaxes : Bool) (old new : SessionOf) (reader read : Feeding) (result : Result WindowOf WindowEnd) →
    NextWindow relaxes old new reader read result → new.parts ≡ old.parts
same-parts relaxes old new reader read result (session.given feeds window going asks run made narrow e) = ap (λ (s : SessionOf). s.parts) e
same-parts relaxes old new reader read result (session.finished unended at still e) = ap (λ (s : SessionOf). s.parts) e
same-parts relaxes old new reader read result (session.unfed fault going asks other e) = ap (λ (s : SessionOf). s.parts) e
same-parts relaxes old new reader read result (session.wide feeds place going asks first e) = ap (λ (s : SessionOf). s.parts) e
same-parts relaxes old new reader read result (session.starved unended asks e) = ap (λ (s : SessionOf). s.parts) e
same-parts relaxes old new reader read result (session.again end ended still e) = ap (λ (s : SessionOf). s.parts) e

-- what was answered for the texts of a window
module _ (relaxes : Bool) (w : ℕ) (old new : SessionOf) (reader read : Feeding) where
  -- the window was asked for
  pub asked-for : (result : Result Texts WindowEnd) → NextTexts relaxes w old new reader read result →
      (answer : Result WindowOf WindowEnd) × NextWindow relaxes old new reader read answer
  asked-for (Ok texts) next = (Ok next.0, next.1)
  asked-for (Err window_end.NoMemory) next = next
  asked-for (Err window_end.Finished) next = (Err window_end.Finished, next)
  asked-for (Err (window_end.Feed fault)) next = (Err (window_end.Feed fault), next)
  asked-for (Err (window_end.Wide place)) next = (Err (window_end.Wide place), next)

  -- and there is none
  pub none-made : (end : WindowEnd) → NextWindow relaxes old new reader read (Err end) → NextTexts relaxes w old new reader read (Err end)
  none-made window_end.NoMemory next = (Err window_end.NoMemory, next)
  none-made window_end.Finished next = next
  none-made (window_end.Feed fault) next = next
  none-made (window_end.Wide place) next = next

  -- or memory ran out behind it
  pub starved-of : (window : WindowOf) (result : Result Texts WindowEnd) → IsErrAnd result (λ end. end ≡ window_end.NoMemory) →
      NextWindow relaxes old new reader read (Ok window) → NextTexts relaxes w old new reader read result
  starved-of window (Ok texts) e next = absurd e
  starved-of window (Err end) e next =
      subst (λ (end : WindowEnd). NextTexts relaxes w old new reader read (Err end)) (sym e) (Ok window, next)

  -- or its texts were made
  pub texts-made : (window : WindowOf) (texts : Texts) (parts : FileParts) → parts ≡ new.parts →
      NextWindow relaxes old new reader read (Ok window) → AreTextsOf relaxes parts w window texts →
      NextTexts relaxes w old new reader read (Ok texts)
  texts-made window texts parts e next are = (
    window,
    next,
    subst (λ (parts : FileParts). AreTextsOf relaxes parts w window texts) (e ∙ same-parts relaxes old new reader read (Ok window) next) are,
  )

-- where it was stepped, there are no steps
pub rows-made : (w : ℕ) (old new : SessionOf) (reader read : Feeding) (rows : List ℕ) → NextRows old new reader read (Ok rows) →
    NextTexts false w old new reader read (Ok (record { rows = rows; steps = None }))
rows-made w old new reader read rows next = (next.0, next.1, record { rows_are = next.2; steps_are = refl })
