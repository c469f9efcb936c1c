-- What stands after rows for the output and steps for the trace were written in turn.
use Rattle.std.proofs.Common.{◌≡◌, ◌≢◌, ◌∙◌, refl, sym, ap, subst, ℕ, zero, suc, ◌<◌, ◌≤◌, List, [], ◌++◌, Option, Some, None, ◌⊎◌, inl, inr}
use Rattle.std.proofs.Common.{Result, Ok, Err, IsErrAnd, arith, append_assoc, append-nil}
use Rattle.std.proofs.lemmas.Bool.{cases_lt}
use Rattle.flow_edge.specs.Faults.{Rose}
use Rattle.flow_edge.specs.Sink.{Gives, GivesFront}
use Rattle.relax_core.specs.Board.{RowOf}
use Rattle.relax_core.specs.Settled.{Settles}
use Rattle.tables.specs.Steps.{trace_header}
use Rattle.report.specs.Trace.{IsTrace, trace_rows}
use Rattle.report.specs.Trace as legal
use Rattle.report.specs.declared.fault.TopFault.{TopFault}
use Rattle.report.specs.declared.fault.TopFault.TheVariants.{WriteOut, WriteTrace}
use Rattle.flow_top.specs.declared.words.Command.{Command}
use Rattle.flow_top.specs.declared.fault.Stop.{Stop}
use Rattle.flow_top.specs.declared.fault.End.{End}
use Rattle.flow_top.specs.declared.fault.End.TheVariants.{Stopped, NoMemory}
use Rattle.flow_top.specs.Faults.{stop_by}
use Rattle.flow_top.specs.Course.{Course, Traced, written, text_of}
use Rattle.flow_top.specs.Uses.{SinkUse, Sinks, IsUnwritten, WasGiven, Broke}
use Rattle.flow_top.specs.Ended.{TraceStood, TraceFront, Stood, BrokeOff}
use Rattle.flow_top.specs.Ended as ended
use Rattle.flow_top.specs.Steps.{PieceEnded, PairEnded, GivesSteps, AreCounted}
use Rattle.flow_top.specs.Steps as pair
use Rattle.flow_top.proofs.Writes.{front-longer, front-after, both-given, front-whole, front-none, rose-later}

-- the two pieces in turn
first-broke : (command : Command) (sinks : Sinks) (rows : List ℕ) (steps : Option (List ℕ)) (end : End) → IsUnwritten sinks.trace →
    PieceEnded command WriteOut (Err end) sinks.out rows → PairEnded command sinks rows steps (Err end)
first-broke command sinks rows steps (Stopped stop) still e =
    subst (λ s. PairEnded command sinks rows steps (Err (Stopped s))) (sym e.1) (pair.output e.0 still)
first-broke command sinks rows steps NoMemory still e = absurd e

pub pair-broke : (command : Command) (sinks : Sinks) (rows : List ℕ) (steps : Option (List ℕ)) (result : Result (Unit {0}) End) (end : End) →
    IsErrAnd result (λ e. e ≡ end) → IsUnwritten sinks.trace → PieceEnded command WriteOut (Err end) sinks.out rows →
    PairEnded command sinks rows steps result
pair-broke command sinks rows steps (Ok done) end h still e = absurd h
pair-broke command sinks rows steps (Err other) end h still e =
    subst (λ e. PairEnded command sinks rows steps (Err e)) (sym h) (first-broke command sinks rows steps end still e)

pub pair-ended : (command : Command) (sinks : Sinks) (rows text : List ℕ) (result : Result (Unit {0}) End) →
    WasGiven sinks.out rows → PieceEnded command WriteTrace result sinks.trace text → PairEnded command sinks rows (Some text) result
pair-ended command sinks rows text (Ok done) given e = pair.whole given e
pair-ended command sinks rows text (Err (Stopped stop)) given e =
    subst (λ s. PairEnded command sinks rows (Some text) (Err (Stopped s))) (sym e.1) (pair.trace text refl given e.0)
pair-ended command sinks rows text (Err NoMemory) given e = absurd e

-- writing takes no memory
pub pair-memory : (command : Command) (sinks : Sinks) (rows : List ℕ) (steps : Option (List ℕ)) (result : Result (Unit {0}) End) →
    PairEnded command sinks rows steps result → result ≡ Err NoMemory → ⊥
pair-memory command sinks rows steps result (pair.whole out trace) e = cc e
pair-memory command sinks rows steps result (pair.output out trace) e = cc e
pair-memory command sinks rows steps result (pair.trace text is out trace) e = cc e

-- a sink's use from before the first of two writes to after the second
abbrev pub both : SinkUse → SinkUse → SinkUse
both first second = record { had = first.had; has = second.has; before = first.before; now = second.now }

abbrev pub both_sinks : Sinks → Sinks → Sinks
both_sinks first second = record { out = both first.out second.out; trace = both first.trace second.trace }

-- the second began where the first ended
pub record IsNext (first second : SinkUse) : Type 0 where
  pub text : second.had ≡ first.has
  pub count : second.before ≡ first.now

pub rose-next : (first second : SinkUse) → first.before ≤ first.now → IsNext first second → Rose second.before second.now →
    Rose first.before second.now
rose-next first second counted next r =
    rose-later first.before first.now second.now counted (subst (λ before. Rose before second.now) next.count r)

gives-both : (first second : SinkUse) (text more : List ℕ) → IsNext first second → Gives first.had first.has text →
    Gives second.had second.has more → Gives first.had second.has (text ++ more)
gives-both first second text more next g h =
    both-given first.had first.has second.has text more g (subst (λ had. Gives had second.has more) next.text h)

front-both : (first second : SinkUse) (text more : List ℕ) → IsNext first second → Gives first.had first.has text →
    GivesFront second.had second.has more → GivesFront first.had second.has (text ++ more)
front-both first second text more next g h =
    front-after first.had first.has second.has text more g (subst (λ had. GivesFront had second.has more) next.text h)

none-below : (k : ℕ) → suc k ≤ zero → ⊥
none-below k h = omega arith

at-most : (k n : ℕ) → k ≤ suc n → (k ≤ n) ⊎ (k ≡ suc n)
at-most k n h = elim (cases_lt n k) [ inl more ↦ inr (omega arith) | inr less ↦ inl (omega arith) ]

-- what was written after fewer windows is a first part of what is written after more
front-of : (course : Course) (k n : ℕ) → k ≤ n → (rest : List ℕ) × (written course n ≡ written course k ++ rest)
front-of course zero zero h = ([], sym (append-nil course.header))
front-of course (suc k) zero h = absurd (none-below k h)
front-of course k (suc n) h = elim (at-most k n h) [
  | inl less ↦ let before = front-of course k n less in
      (before.0 ++ course.rows n, ap (λ text. text ++ course.rows n) before.1 ∙ append_assoc (written course k) before.0 (course.rows n))
  | inr same ↦ ([], ap (written course) (sym same) ∙ sym (append-nil (written course k)))
]

written-front : (course : Course) (k : ℕ) (sink : SinkUse) → k ≤ course.windows →
    GivesFront sink.had sink.has (written course k) → GivesFront sink.had sink.has (text_of course)
written-front course k sink few h =
    let rest = front-of course k course.windows few in
    subst (GivesFront sink.had sink.has) (sym rest.1) (front-longer sink.had sink.has (written course k) rest.0 h)

-- the header of the trace, where there is one
abbrev pub header_for : Option Traced → Option (List ℕ)
header_for None = None
header_for (Some traced) = Some trace_header

-- the text of window k for the trace, where there is one: the rows of some steps that settle it
abbrev pub StepsFor : Option Traced → ℕ → Option (List ℕ) → Type 0
StepsFor None k steps = steps ≡ None
StepsFor (Some traced) k None = ⊥
StepsFor (Some traced) k (Some text) =
    (made : List RowOf) × Settles (traced.window k) made × (text ≡ trace_rows traced.names k made)

-- nothing was given to a sink by two writes
still-both : (first second : SinkUse) → IsNext first second → IsUnwritten first → IsUnwritten second → IsUnwritten (both first second)
still-both first second next a b = record {
  text = b.text ∙ next.text ∙ a.text;
  count = b.count ∙ next.count ∙ a.count;
}

trace-opened : (traced : Option Traced) (trace : SinkUse) → GivesSteps trace (header_for traced) → TraceStood traced 0 trace
trace-opened None trace g = g
trace-opened (Some traced) trace g = (trace_header, legal.opening, g)

trace-unopened : (traced : Option Traced) (n : ℕ) (trace : SinkUse) → IsUnwritten trace → TraceFront traced n trace
trace-unopened None n trace still = still
trace-unopened (Some traced) n trace still = (0, trace_header, omega arith, legal.opening, front-none trace trace_header still)

-- a trace that broke is one of windows that are traced
pub record BrokeTrace (traced : Option Traced) (n : ℕ) (trace : SinkUse) : Type 0 where
  pub what : Traced
  pub some : traced ≡ Some what
  pub front : TraceFront traced n trace

header-broke : (traced : Option Traced) (n : ℕ) (trace : SinkUse) (text : List ℕ) → header_for traced ≡ Some text → Broke trace text →
    BrokeTrace traced n trace
header-broke None n trace text e b = absurd (cc e)
header-broke (Some traced) n trace text e b = record {
  what = traced;
  some = refl;
  front = (0, trace_header, omega arith, legal.opening, subst (λ t. GivesFront trace.had trace.has t) (sym (cc e)) b.front);
}

trace-further : (what : Traced) (k : ℕ) (first second : SinkUse) → IsNext first second → TraceStood (Some what) k first →
    (steps : Option (List ℕ)) → StepsFor (Some what) k steps → GivesSteps second steps → TraceStood (Some what) (suc k) (both first second)
trace-further what k first second next a None i g = absurd i
trace-further what k first second next a (Some text) i g = (
  a.0 ++ trace_rows what.names k i.0,
  legal.next k a.0 i.0 a.1 i.1,
  gives-both first second a.0 (trace_rows what.names k i.0) next a.2 (subst (λ t. Gives second.had second.has t) i.2 g),
)

trace-on : (traced : Option Traced) (k : ℕ) (first second : SinkUse) → IsNext first second → TraceStood traced k first →
    (steps : Option (List ℕ)) → StepsFor traced k steps → GivesSteps second steps → TraceStood traced (suc k) (both first second)
trace-on None k first second next a steps i g = still-both first second next a (subst (GivesSteps second) i g)
trace-on (Some what) k first second next a steps i g = trace-further what k first second next a steps i g

trace-still : (traced : Option Traced) (k n : ℕ) (first second : SinkUse) → IsNext first second → k ≤ n → TraceStood traced k first →
    IsUnwritten second → TraceFront traced n (both first second)
trace-still None k n first second next few a still = still-both first second next a still
trace-still (Some what) k n first second next few a still = (
  k,
  a.0,
  few,
  a.1,
  front-whole first.had second.has a.0 (subst (λ has. Gives first.had has a.0) (sym (still.text ∙ next.text)) a.2),
)

trace-broke : (traced : Option Traced) (k n : ℕ) (first second : SinkUse) → IsNext first second → suc k ≤ n → TraceStood traced k first →
    (steps : Option (List ℕ)) (text : List ℕ) → StepsFor traced k steps → steps ≡ Some text → Broke second text →
    BrokeTrace traced n (both first second)
trace-broke None k n first second next few a steps text i e b = absurd (cc (i, e))
trace-broke (Some what) k n first second next few a None text i e b = absurd (cc e)
trace-broke (Some what) k n first second next few a (Some rows) text i e b = record {
  what = what;
  some = refl;
  front = (
    suc k,
    a.0 ++ trace_rows what.names k i.0,
    few,
    legal.next k a.0 i.0 a.1 i.1,
    front-both first second a.0 (trace_rows what.names k i.0) next a.2
        (subst (λ t. GivesFront second.had second.has t) (sym (cc e) ∙ i.2) b.front),
  );
}

module _ (command : Command) (course : Course) where
  -- the headers
  pub opened : (sinks : Sinks) → course.header ≢ [] →
      PairEnded command sinks course.header (header_for course.trace) (Ok tt) → Stood course 0 sinks
  opened sinks full (pair.whole out trace) = record {
    few = omega arith;
    output = out;
    trace = trace-opened course.trace sinks.trace trace;
    silent = λ none. absurd (full none);
  }

  pub opened-broke : (sinks : Sinks) (stop : Stop) →
      PairEnded command sinks course.header (header_for course.trace) (Err (Stopped stop)) →
      (fault : TopFault) × BrokeOff course sinks fault × (stop ≡ stop_by command fault)
  opened-broke sinks stop (pair.output out trace) = (
    WriteOut,
    ended.output (record { front = written-front course 0 sinks.out (omega arith) out.front; fault = out.fault })
        (trace-unopened course.trace course.windows sinks.trace trace),
    refl,
  )
  opened-broke sinks stop (pair.trace text is out trace) =
      let broke = header-broke course.trace course.windows sinks.trace text is trace in (
        WriteTrace,
        ended.trace broke.what broke.some
            (written-front course 0 sinks.out (omega arith) (front-whole sinks.out.had sinks.out.has course.header out))
            broke.front trace.fault,
        refl,
      )

  module _ (k : ℕ) (more : k < course.windows) (steps : Option (List ℕ)) (is : StepsFor course.trace k steps)
      (first second : Sinks) (stood : Stood course k first) (counted : AreCounted first)
      (out_next : IsNext first.out second.out) (trace_next : IsNext first.trace second.trace) where
    -- one window more
    pub went-on : written course (suc k) ≢ [] → PairEnded command second (course.rows k) steps (Ok tt) →
        Stood course (suc k) (both_sinks first second)
    went-on full (pair.whole out trace) = record {
      few = omega (arith, more);
      output = gives-both first.out second.out (written course k) (course.rows k) out_next stood.output out;
      trace = trace-on course.trace k first.trace second.trace trace_next stood.trace steps is trace;
      silent = λ none. absurd (full none);
    }

    pub went-broke : (stop : Stop) → PairEnded command second (course.rows k) steps (Err (Stopped stop)) →
        (fault : TopFault) × BrokeOff course (both_sinks first second) fault × (stop ≡ stop_by command fault)
    went-broke stop (pair.output out trace) = (
      WriteOut,
      ended.output (record {
        front = written-front course (suc k) (both first.out second.out) (omega (arith, more))
            (front-both first.out second.out (written course k) (course.rows k) out_next stood.output out.front);
        fault = rose-next first.out second.out counted.out out_next out.fault;
      })
          (trace-still course.trace k course.windows first.trace second.trace trace_next (omega (arith, more)) stood.trace trace),
      refl,
    )
    went-broke stop (pair.trace text e out trace) =
        let broke = trace-broke course.trace k course.windows first.trace second.trace trace_next (omega (arith, more)) stood.trace
        steps text is e trace in (
          WriteTrace,
          ended.trace broke.what broke.some (written-front course (suc k) (both first.out second.out) (omega (arith, more))
              (front-whole first.out.had second.out.has (written course (suc k))
              (gives-both first.out second.out (written course k) (course.rows k) out_next stood.output out)))
              broke.front
              (rose-next first.trace second.trace counted.trace trace_next trace.fault),
          refl,
        )
