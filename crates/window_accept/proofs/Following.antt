-- A session that follows its plant's interval run.
use Rattle.std.proofs.Common.{◌≡◌, ◌∙◌, ◌⊎◌, ℕ, ◌+◌, ◌-◌, ◌<◌, ◌≤◌, pos, Bool, List, [], length, slice_index_or}
use Rattle.std.proofs.Common.{refl, sym, ap, subst, arith, Option, Some, None, Ok, Err}
use Rattle.std.proofs.lemmas.List.FromFn.{get_or-map-range_with_len}
use Rattle.quant.specs.Interval.{Interval, point}
use Rattle.relaxation.specs.Tube.{Tube, at, tube_of}
use Rattle.relaxation.specs.Window.{run_tube}
use Rattle.relaxation.proofs.Ticks.{at-tube_of}
use Rattle.parts.specs.Parts.{FileParts}
use Rattle.plant_streams.specs.Streams.{streams_of}
use Rattle.plant.specs.Rows.{streams_of_run}
use Rattle.renewal.specs.Plan.{PlanOf, IsPlan, AreCarried, window_of}
use Rattle.renewal.specs.Carrying.{states_after}
use Rattle.feeds.specs.Given.{given_by, refusal_by, tubes_by, run_plan}
use Rattle.feeds.specs.ReaderOf.{Feeding}
use Rattle.feeds.specs.Reader.{GivesBy, IsFailure}
use Rattle.feeds.specs.declared.reader.FeedFault.{FeedFault}
use Rattle.feeds.proofs.Windows.{is-plan, run-is, joined}
use Rattle.feeds.proofs.Limits.{given-within}
use Rattle.relax_core.specs.Settled.{WindowOf}
use Rattle.window_accept.specs.declared.wide.TooWide.{TooWide}
use Rattle.window_accept.specs.declared.end.WindowEnd.{WindowEnd}
use Rattle.window_accept.specs.declared.end.WindowEnd.TheVariants as end
use Rattle.window_accept.specs.Wide.{width_of, IsTooWide, AreNarrowEnough, IsFirstWide, FindsWide}
use Rattle.window_accept.specs.Session.{SessionOf, IsSession, next_ticks, next_plan, bands_of_plan, HasRunOf, IsGoingOn}
use Rattle.window_accept.specs.Session.{Asks, IsMadeBy, NextWindow, given, finished, unfed, wide, again, FollowsRun, HasRunAt}
use Rattle.window_accept.specs.Session.{IsAlong, moved_on}

-- the bands of one row alone decide whether a place is too wide
judged : (parts : FileParts) (bands other : ℕ → ℕ → List Interval) (place : TooWide) →
    bands place.tick place.stream ≡ other place.tick place.stream → IsTooWide parts bands place → IsTooWide parts other place
judged parts bands other place e h = record {
  stream = h.stream;
  given = h.given;
  asked = h.asked;
  width = h.width
      ∙ ap (λ (row : List Interval). width_of (slice_index_or row place.channel (point (pos 0)))) e;
  wider = h.wider;
}

-- bands that are equal at these ticks are judged alike
pub narrow-alike : (parts : FileParts) (bands other : ℕ → ℕ → List Interval) (first n : ℕ) →
    ((t s : ℕ) → first ≤ t → t < first + n → s < length (streams_of parts) → bands t s ≡ other t s) →
    AreNarrowEnough parts bands first n → AreNarrowEnough parts other first n
narrow-alike parts bands other first n e narrow place among h = narrow place among
    (judged parts other bands place (sym (e place.tick place.stream among.0 among.1 h.stream)) h)

pub first-alike : (parts : FileParts) (bands other : ℕ → ℕ → List Interval) (first n : ℕ) (place : TooWide) →
    ((t s : ℕ) → first ≤ t → t < first + n → s < length (streams_of parts) → bands t s ≡ other t s) →
    IsFirstWide parts bands first n place → IsFirstWide parts other first n place
first-alike parts bands other first n place e h = record {
  among = h.among;
  wide_is = judged parts bands other place (e place.tick place.stream h.among.0 h.among.1 h.wide_is.stream) h.wide_is;
  sooner = λ sooner among wide_is is. h.sooner sooner among
      (judged parts other bands sooner (sym (e sooner.tick sooner.stream among.0 among.1 wide_is.stream)) wide_is) is;
}

pub finds-alike : (found : Option TooWide) (parts : FileParts) (bands other : ℕ → ℕ → List Interval) (first n : ℕ) →
    ((t s : ℕ) → first ≤ t → t < first + n → s < length (streams_of parts) → bands t s ≡ other t s) →
    FindsWide found parts bands first n → FindsWide found parts other first n
finds-alike None parts bands other first n e h = narrow-alike parts bands other first n e h
finds-alike (Some place) parts bands other first n e h = first-alike parts bands other first n place e h

-- a next window has 1 to 64 ticks of the plant
pub some-ticks : (old : SessionOf) → IsSession old → old.tick < old.parts.ticks → 1 ≤ next_ticks old
some-ticks old session left = omega (arith, session.plant.ranges.window.0)

pub few-ticks : (old : SessionOf) → IsSession old → next_ticks old ≤ 64
few-ticks old session = omega (arith, session.plant.ranges.window.1)

pub ticks-inside : (old : SessionOf) → IsSession old → old.tick + next_ticks old ≤ old.parts.ticks
ticks-inside old session = omega (arith, session.tick)

-- the bands of the streams in the run of a session's plant by records
abbrev bands_by : Option (List ℕ) → SessionOf → ℕ → ℕ → List Interval
bands_by records session = streams_of_run session.parts (given_by session.parts records)

-- the plan of the ticks of its next window in that run
abbrev plan_by : Option (List ℕ) → SessionOf → PlanOf
plan_by records session = run_plan session.parts (given_by session.parts records) session.tick (next_ticks session)

module _ (records : Option (List ℕ)) (old : SessionOf) (reader read : Feeding) (feeds : List Tube)
    (along : IsAlong records old reader) (going : IsGoingOn old) (asks : Asks old reader read (Ok feeds)) where
  -- what the reader gives is what the records give
  pub gives-by : GivesBy old.parts records old.tick (next_ticks old) read (Ok feeds)
  gives-by = asks.by along.faultless records along.stands

  -- so the plan of the next window is that of the run's ticks
  pub plan-is : next_plan old feeds ≡ plan_by records old
  plan-is =
      let n : ℕ = next_ticks old in
      let f : List (List Interval) → List Tube → PlanOf = λ carried tubes.
      record { parts = old.parts; first = old.tick; ticks = n; carried = carried; feeds = tubes } in
      ap (f old.carried) gives-by.1 ∙ ap (λ carried. f carried (tubes_by old.parts records old.tick n)) along.follows

  tube-is : (s : ℕ) → s < length (streams_of old.parts) → run_tube (window_of (next_plan old feeds)) s
      ≡ tube_of (λ t. bands_by records old (old.tick + t) s) (next_ticks old)
  tube-is s l = ap (λ (plan : PlanOf). run_tube (window_of plan) s) plan-is
      ∙ run-is old.parts (given_by old.parts records) along.session_is.plant
      (given-within old.parts records along.session_is.plant) old.tick (next_ticks old) s l

  -- and its bands are the run's
  pub bands-are : (t s : ℕ) → old.tick ≤ t → t < old.tick + next_ticks old → s < length (streams_of old.parts) →
      bands_of_plan (next_plan old feeds) t s ≡ bands_by records old t s
  bands-are t s h k l =
      let below : t - old.tick < next_ticks old = omega arith in
      let back : old.tick + (t - old.tick) ≡ t = omega arith in
      ap (λ (tube : Tube). at tube (t - old.tick)) (tube-is s l)
      ∙ (at-tube_of (λ q. bands_by records old (old.tick + q) s) (next_ticks old) (t - old.tick) below
      ∙ ap (λ q. bands_by records old q s) back)

  -- a window that has the plan's run has the plant's
  pub has-run : (window : WindowOf) → HasRunOf (next_plan old feeds) window →
      HasRunAt old.parts records old.tick (next_ticks old) window
  has-run window h = record {
    window_is = h.window_is;
    first_is = h.first;
    ticks_are = h.ticks;
    run = λ t s m l. ap (λ (tube : Tube). at tube t) (ap (λ (tubes : List Tube). slice_index_or tubes s []) h.tubes
        ∙ (get_or-map-range_with_len (run_tube (window_of (next_plan old feeds))) 0 (length (streams_of old.parts)) s s [] l
        (omega arith) ∙ tube-is s l))
        ∙ at-tube_of (λ q. bands_by records old (old.tick + q) s) (next_ticks old) t m;
  }

  -- the states of the run are carried on, as windows join
  follows-on : FollowsRun records (moved_on old feeds)
  follows-on = ap (λ (plan : PlanOf). states_after plan) plan-is
      ∙ joined old.parts (given_by old.parts records) along.session_is.plant
      (given-within old.parts records along.session_is.plant) old.tick (next_ticks old) 0

  -- and lie in the limits, so the session goes on along the run
  pub along-on : ((plan : PlanOf) → IsPlan plan → AreCarried plan.parts (states_after plan)) → IsAlong records (moved_on old feeds) read
  along-on law = record {
    session_is = record {
      plant = along.session_is.plant;
      tick = ticks-inside old along.session_is;
      carried = law (next_plan old feeds) (subst IsPlan (sym plan-is) (is-plan old.parts (given_by old.parts records)
          along.session_is.plant (given-within old.parts records along.session_is.plant) old.tick (next_ticks old)
          (some-ticks old along.session_is going.left) (few-ticks old along.session_is) (ticks-inside old along.session_is)));
    };
    follows = follows-on;
    unended = refl;
    ready = record { reader_is = asks.reader; later = λ e. omega (arith, (asks.kept along.faultless).1) };
    faultless = (asks.kept along.faultless).0;
    stands = gives-by.2;
  }

-- a session that has not ended does not answer an end again
unended-new : (session : SessionOf) (end : WindowEnd) → session.end ≡ None → session.end ≡ Some end → ⊥
unended-new session end unended was = cc

module _ (relaxes : Bool) (records : Option (List ℕ)) (old new : SessionOf) (reader read : Feeding) where
  pub window-follows : (window : WindowOf) → IsAlong records old reader → NextWindow relaxes old new reader read (Ok window) →
      HasRunAt old.parts records old.tick (next_ticks old) window
  window-follows _ along (given feeds window going asks run made narrow is) =
      has-run records old reader read feeds along going asks window run

  pub window-made : (window : WindowOf) → IsAlong records old reader → NextWindow relaxes old new reader read (Ok window) →
      IsMadeBy relaxes (plan_by records old) window
  window-made _ along (given feeds window going asks run made narrow is) =
      subst (λ (plan : PlanOf). IsMadeBy relaxes plan window) (plan-is records old reader read feeds along going asks) made

  pub window-taken : (window : WindowOf) → IsAlong records old reader → NextWindow relaxes old new reader read (Ok window) →
      refusal_by old.parts records (old.tick + next_ticks old) ≡ None
  window-taken _ along (given feeds window going asks run made narrow is) = (gives-by records old reader read feeds along going asks).0

  pub window-narrow : (window : WindowOf) → IsAlong records old reader → NextWindow relaxes old new reader read (Ok window) →
      AreNarrowEnough old.parts (bands_by records old) old.tick (next_ticks old)
  window-narrow _ along (given feeds window going asks run made narrow is) = narrow-alike old.parts _ _ old.tick (next_ticks old)
      (bands-are records old reader read feeds along going asks) narrow

  pub goes-along : ((plan : PlanOf) → IsPlan plan → AreCarried plan.parts (states_after plan)) →
      (window : WindowOf) → IsAlong records old reader → NextWindow relaxes old new reader read (Ok window) →
      IsAlong records new read
  goes-along law _ along (given feeds window going asks run made narrow is) =
      subst (λ (session : SessionOf). IsAlong records session read) (sym is)
      (along-on records old reader read feeds along going asks law)

  pub wide-follows : (place : TooWide) → IsAlong records old reader → NextWindow relaxes old new reader read (Err (end.Wide place)) →
      IsFirstWide old.parts (bands_by records old) old.tick (next_ticks old) place
  wide-follows _ along (wide feeds place going asks first is) = first-alike old.parts _ _ old.tick (next_ticks old) place
      (bands-are records old reader read feeds along going asks) first
  wide-follows place along (again end was same is) = absurd (unended-new old end along.unended was)

  pub wide-taken : (place : TooWide) → IsAlong records old reader → NextWindow relaxes old new reader read (Err (end.Wide place)) →
      refusal_by old.parts records (old.tick + next_ticks old) ≡ None
  wide-taken _ along (wide feeds place going asks first is) = (gives-by records old reader read feeds along going asks).0
  wide-taken place along (again end was same is) = absurd (unended-new old end along.unended was)

  pub fed-by : (fault : FeedFault) → IsAlong records old reader → NextWindow relaxes old new reader read (Err (end.Feed fault)) →
      (refusal_by old.parts records (old.tick + next_ticks old) ≡ Some fault) ⊎ IsFailure fault
  fed-by _ along (unfed fault going asks other is) = asks.by along.faultless records along.stands
  fed-by fault along (again end was same is) = absurd (unended-new old end along.unended was)

-- where all of a text of records is taken, nothing is left of it
pub read-whole : (relaxes : Bool) (text : List ℕ) (old new : SessionOf) (reader read : Feeding) (window : WindowOf) →
    IsAlong (Some text) old reader → NextWindow relaxes old new reader read (Ok window) → new.tick ≡ old.parts.ticks →
    read.left ≡ Some []
read-whole relaxes text old new reader read _ along (given feeds window going asks run made narrow is) last =
    (gives-by (Some text) old reader read feeds along going asks).3 (sym (ap (λ (session : SessionOf). session.tick) is) ∙ last)

module _ (relaxes : Bool) (old new : SessionOf) (reader read : Feeding) where
  pub window-going : (window : WindowOf) → NextWindow relaxes old new reader read (Ok window) → IsGoingOn old
  window-going _ (given feeds window going asks run made narrow is) = going

  pub window-moves : (window : WindowOf) → NextWindow relaxes old new reader read (Ok window) → new.tick ≡ old.tick + next_ticks old
  window-moves _ (given feeds window going asks run made narrow is) = ap (λ (session : SessionOf). session.tick) is

  pub same-parts : (window : WindowOf) → NextWindow relaxes old new reader read (Ok window) → new.parts ≡ old.parts
  same-parts _ (given feeds window going asks run made narrow is) = ap (λ (session : SessionOf). session.parts) is

  pub wide-going : (place : TooWide) → old.end ≡ None → NextWindow relaxes old new reader read (Err (end.Wide place)) →
      old.tick < old.parts.ticks
  wide-going _ unended (wide feeds place going asks first is) = going.left
  wide-going place unended (again end was same is) = absurd (unended-new old end unended was)

  pub all-given : old.end ≡ None → NextWindow relaxes old new reader read (Err end.Finished) → old.tick ≡ old.parts.ticks
  all-given unended (finished none last same is) = last
  all-given unended (again end was same is) = absurd (unended-new old end unended was)

  pub fed-going : (fault : FeedFault) → old.end ≡ None → NextWindow relaxes old new reader read (Err (end.Feed fault)) →
      old.tick < old.parts.ticks
  fed-going _ unended (unfed fault going asks other is) = going.left
  fed-going fault unended (again end was same is) = absurd (unended-new old end unended was)
