-- What a reader of feeds is after a session's next window.
use Rattle.std.proofs.Common.{◌≡◌, ℕ, ◌≤◌, Bool, List, Option, Some, None, Result, Ok, Err, inl, inr, refl, sym, ap, subst, arith}
use Rattle.flow_edge.specs.Faults.{Rose}
use Rattle.relaxation.specs.Tube.{Tube}
use Rattle.parts.specs.Parts.{FileParts}
use Rattle.feeds.specs.ReaderOf.{ReaderOf, Feeding}
use Rattle.feeds.specs.Reader.{Gives}
use Rattle.feeds.specs.Standing.{IsReaderFor}
use Rattle.feeds.specs.declared.reader.FeedFault.{FeedFault}
use Rattle.feeds.specs.declared.reader.FeedFault.TheVariants.{ReadFault}
use Rattle.relax_core.specs.Settled.{WindowOf, IsWindow}
use Rattle.window_accept.specs.declared.end.WindowEnd.{WindowEnd}
use Rattle.window_accept.specs.declared.end.WindowEnd.TheVariants.{Feed}
use Rattle.window_accept.specs.Session.{SessionOf, IsReady, Asks, NextWindow, given, finished, unfed, wide, starved, again}
use Rattle.window_accept.specs.Session.{moved_on, ended_by}

-- a reader that gives tubes had answered no fault
unfaulted : (parts : FileParts) (first n : ℕ) (reader read : Feeding) (feeds : List Tube) (fault : Option FeedFault) →
    reader.reader.fault ≡ fault → Gives parts first n reader read (Ok feeds) → reader.reader.fault ≡ None
unfaulted parts first n reader read feeds None e gives = e
unfaulted parts first n reader read feeds (Some fault) e gives =
    absurd (let f : Ok feeds ≡ Err fault = (gives.again fault e).0 in cc)

-- a session that has ended asks nothing further
ready-ended : (session : SessionOf) (end : WindowEnd) (reader : ReaderOf) → IsReaderFor session.parts reader →
    IsReady (ended_by session end) reader
ready-ended session end reader is = record { reader_is = is; later = λ e. absurd (let f : Some end ≡ None = e in cc) }

module _ (old : SessionOf) (reader read : Feeding) where
  moved-ready : (feeds : List Tube) → Asks old reader read (Ok feeds) → IsReady (moved_on old feeds) read.reader
  moved-ready feeds asks = record {
    reader_is = asks.reader;
    later = λ e. omega (arith, (asks.kept (unfaulted _ _ _ reader read feeds reader.reader.fault refl asks)).1);
  }

  pub stays-ready : (relaxes : Bool) (new : SessionOf) (answer : Result WindowOf WindowEnd) → IsReady old reader.reader →
      NextWindow relaxes old new reader read answer → IsReady new read.reader
  stays-ready relaxes new _ ready (given feeds window going asks run made narrow is) =
      subst (λ (session : SessionOf). IsReady session read.reader) (sym is) (moved-ready feeds asks)
  stays-ready relaxes new _ ready (finished none last same is) =
      subst (λ (session : SessionOf). IsReady session read.reader) (sym is) (ready-ended old _ read.reader
      (subst (λ (feeding : Feeding). IsReaderFor old.parts feeding.reader) (sym same) ready.reader_is))
  stays-ready relaxes new _ ready (unfed fault going asks other is) =
      subst (λ (session : SessionOf). IsReady session read.reader) (sym is) (ready-ended old _ read.reader asks.reader)
  stays-ready relaxes new _ ready (wide feeds place going asks first is) =
      subst (λ (session : SessionOf). IsReady session read.reader) (sym is) (ready-ended old _ read.reader asks.reader)
  stays-ready relaxes new _ ready (starved going (inl same) is) =
      subst (λ (session : SessionOf). IsReady session read.reader) (sym is) (ready-ended old _ read.reader
      (subst (λ (feeding : Feeding). IsReaderFor old.parts feeding.reader) (sym same) ready.reader_is))
  stays-ready relaxes new _ ready (starved going (inr asked) is) =
      subst (λ (session : SessionOf). IsReady session read.reader) (sym is) (ready-ended old _ read.reader asked.1.reader)
  stays-ready relaxes new _ ready (again end was same is) =
      subst (λ (session : SessionOf). IsReady session read.reader) (sym is)
      (subst (λ (feeding : Feeding). IsReady old feeding.reader) (sym same) ready)

-- the source's count of faults has not fallen, and a source that was not asked for records is as it was
pub stays-counted : (relaxes : Bool) (old new : SessionOf) (reader read : Feeding) (answer : Result WindowOf WindowEnd) →
    NextWindow relaxes old new reader read answer → reader.faults ≤ read.faults
stays-counted relaxes old new reader read _ (given feeds window going asks run made narrow is) = asks.counted
stays-counted relaxes old new reader read _ (finished none last same is) = omega (arith, ap (λ (feeding : Feeding). feeding.faults) same)
stays-counted relaxes old new reader read _ (unfed fault going asks other is) = asks.counted
stays-counted relaxes old new reader read _ (wide feeds place going asks first is) = asks.counted
stays-counted relaxes old new reader read _ (starved going (inl same) is) = omega (arith, ap (λ (feeding : Feeding). feeding.faults) same)
stays-counted relaxes old new reader read _ (starved going (inr asked) is) = asked.1.counted
stays-counted relaxes old new reader read _ (again end was same is) = omega (arith, ap (λ (feeding : Feeding). feeding.faults) same)

abbrev IsPlain : Feeding → Feeding → Type 0
IsPlain reader read = (read.reader.records ≡ None) × (read.left ≡ reader.left) × (read.faults ≡ reader.faults)

plain-itself : (reader read : Feeding) → read ≡ reader → reader.reader.records ≡ None → IsPlain reader read
plain-itself reader read same none = subst (IsPlain reader) (sym same) (none, refl, refl)

pub stays-plain : (relaxes : Bool) (old new : SessionOf) (reader read : Feeding) (answer : Result WindowOf WindowEnd) →
    reader.reader.records ≡ None → NextWindow relaxes old new reader read answer → IsPlain reader read
stays-plain relaxes old new reader read _ none (given feeds window going asks run made narrow is) = asks.plain none
stays-plain relaxes old new reader read _ none (finished ended last same is) = plain-itself reader read same none
stays-plain relaxes old new reader read _ none (unfed fault going asks other is) = asks.plain none
stays-plain relaxes old new reader read _ none (wide feeds place going asks first is) = asks.plain none
stays-plain relaxes old new reader read _ none (starved going (inl same) is) = plain-itself reader read same none
stays-plain relaxes old new reader read _ none (starved going (inr asked) is) = asked.1.plain none
stays-plain relaxes old new reader read _ none (again end was same is) = plain-itself reader read same none

module _ (relaxes : Bool) (old new : SessionOf) (reader read : Feeding) where
  pub stays-unended : (window : WindowOf) → NextWindow relaxes old new reader read (Ok window) → new.end ≡ None
  stays-unended _ (given feeds window going asks run made narrow is) = ap (λ (session : SessionOf). session.end) is

  pub stays-faultless : (window : WindowOf) → NextWindow relaxes old new reader read (Ok window) → read.reader.fault ≡ None
  stays-faultless _ (given feeds window going asks run made narrow is) =
      (asks.kept (unfaulted _ _ _ reader read feeds reader.reader.fault refl asks)).0

  pub window-is : (window : WindowOf) → NextWindow relaxes old new reader read (Ok window) → IsWindow old.parts window
  window-is _ (given feeds window going asks run made narrow is) = run.window_is

  pub fault-counted : old.end ≡ None → reader.reader.fault ≡ None → NextWindow relaxes old new reader read (Err (Feed ReadFault)) →
      Rose reader.faults read.faults
  fault-counted unended none (unfed fault going asks other is) = asks.failed none refl
  fault-counted unended none (again end was same is) = absurd (let f : old.end ≡ Some end = was in cc)
