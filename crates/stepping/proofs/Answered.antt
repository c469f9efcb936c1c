-- What a stepper answers is what is asked of a session.
use Rattle.std.proofs.Common.{◌≡◌, ◌≢◌, ◌∙◌, ℕ, ◌+◌, ◌<◌, ◌≤◌, length, List, Result, Ok, Err, None}
use Rattle.std.proofs.Common.{IfOk, IfErr, false, inl, inr, refl, sym, ap, subst, arith}
use Rattle.std.proofs.lemmas.List.{length-map}
use Rattle.quant.specs.Interval.{Interval, AllInside}
use Rattle.relaxation.specs.Tube.{Tube, at}
use Rattle.parts.specs.Parts.{FileParts}
use Rattle.plant.specs.Rows.{RowBands, IsRow, opening_row}
use Rattle.plant.specs.Sound.{IsPlant}
use Rattle.plant.specs.PlantOf.{plant_of}
use Rattle.plant.proofs.Lookups.{units-counted}
use Rattle.plant.proofs.PlantLaws.{parts-bands, parts-limited}
use Rattle.plant_units.specs.Units.{units_of, opening_of}
use Rattle.renewal.specs.Plan.{PlanOf, IsPlan, AreCarried}
use Rattle.renewal.specs.Carrying.{states_after}
use Rattle.feeds.specs.ReaderOf.{Feeding}
use Rattle.feeds.specs.Reader.{Gives, AreFeedTubes}
use Rattle.feeds.specs.declared.reader.FeedFault.{FeedFault}
use Rattle.feeds.specs.declared.reader.FeedFault.TheVariants as feed
use Rattle.relaxation.specs.Window.{run_tube}
use Rattle.plant_streams.specs.Streams.{streams_of}
use Rattle.plant_streams.specs.Limits.{limits_at}
use Rattle.renewal.specs.Plan.{window_of}
use Rattle.window_accept.specs.declared.end.WindowEnd.{WindowEnd}
use Rattle.window_accept.specs.declared.end.WindowEnd.TheVariants as end
use Rattle.window_accept.specs.Session.{SessionOf, IsSession, IsGoingOn, Asks, next_plan, next_ticks}
use Rattle.window_accept.specs.Session.{bands_of_plan, end_by, ended_by, NextWindow}
use Rattle.window_accept.specs.Session as session
use Rattle.stepping.specs.NextRows.{NextRows}
use Rattle.stepping.specs.Stepping.{plan_from, IsStepper, IsStepped, IsWideEnd, IsPlanEnd, stepped_on}
use Rattle.stepping.proofs.Stepped.{run_window, has-run, run-rows}

-- before the first window
pub opening-stands : (parts : FileParts) (row : RowBands) → IsPlant parts → row ≡ opening_row parts → IsRow parts row →
    IsStepper (record { parts = parts; tick = 0; carried = row.states; end = None }) row
opening-stands parts row plant e r =
    let bands = parts-bands parts 0 plant in
    let limited = parts-limited parts plant in
    let there : (u : ℕ) → u < length (units_of parts) → u < length (plant_of parts).units =
    λ u l. omega (arith, units-counted parts) in
    record {
      session_is = record {
        plant = plant;
        tick = omega arith;
        carried = subst (λ (held : RowBands). AreCarried parts held.states) (sym e) (record {
          counted = length-map (units_of parts) opening_of;
          within = λ u l. record { numbers = bands.states u (there u l); inside = limited.starts u (there u l) };
        });
      };
      row_is = r;
    }

-- the plan of the next window, from what a stepper holds
pub plan-same : (held now : SessionOf) (row : RowBands) (n : ℕ) (feeds : List Tube) → held ≡ now → n ≡ next_ticks now →
    row.states ≡ held.carried → plan_from held.parts held.tick n row feeds ≡ next_plan now feeds
plan-same held now row n feeds e k r =
    ap (λ (carried : List (List Interval)).
    record { parts = held.parts; first = held.tick; ticks = n; carried = carried; feeds = feeds }) r
    ∙ ap (λ (m : ℕ). record {
      parts = held.parts;
      first = held.tick;
      ticks = m;
      carried = held.carried;
      feeds = feeds;
    }) k
    ∙ ap (λ (s : SessionOf). record {
      parts = s.parts;
      first = s.tick;
      ticks = next_ticks now;
      carried = s.carried;
      feeds = feeds;
    }) e

-- it is a plan
pub next-planned : (now : SessionOf) (feeds : List Tube) →
    ((plan : PlanOf) → IsPlant plan.parts → 1 ≤ plan.ticks → plan.ticks ≤ 64 →
    plan.first + plan.ticks ≤ plan.parts.ticks → AreCarried plan.parts plan.carried →
    AreFeedTubes plan.parts plan.ticks plan.feeds → IsPlan plan) →
    IsSession now → now.tick < now.parts.ticks → AreFeedTubes now.parts (next_ticks now) feeds →
    IsPlan (next_plan now feeds)
next-planned now feeds law is left tubes =
    let window = is.plant.ranges.window in
    law (next_plan now feeds) is.plant (omega (arith, window.0)) (omega (arith, window.1))
    (omega arith) is.carried tubes

-- the reader was asked by the session that a stepper stands for
pub asked : (held now : SessionOf) (n : ℕ) (reader read : Feeding) (answer : Result (List Tube) FeedFault) →
    held ≡ now → n ≡ next_ticks now → Gives held.parts held.tick n reader read answer → Asks now reader read answer
asked held now n reader read answer e k gives =
    subst (λ (m : ℕ). Gives now.parts now.tick m reader read answer) k
    (subst (λ (s : SessionOf). Gives s.parts s.tick n reader read answer) e gives)

-- with tubes that are those of the answer
pub asked-with : (held now : SessionOf) (n : ℕ) (reader read : Feeding) (made tubes : List Tube) → held ≡ now → n ≡ next_ticks now →
    made ≡ tubes → Gives held.parts held.tick n reader read (Ok tubes) → Asks now reader read (Ok made)
asked-with held now n reader read made tubes e k same gives =
    subst (λ (given : List Tube). Asks now reader read (Ok given)) (sym same) (asked held now n reader read (Ok tubes) e k gives)

-- a tick of the plant of these parts is left
pub going-on : (held now : SessionOf) (parts : FileParts) → held ≡ now → parts ≡ held.parts → IsSession held →
    now.end ≡ None → held.tick ≢ parts.ticks → IsGoingOn now
going-on held now parts e k is none ne =
    let last : parts.ticks ≡ held.parts.ticks = ap (λ (p : FileParts). p.ticks) k in
    record { unended = none; left = subst (λ (s : SessionOf). s.tick < s.parts.ticks) e (omega (arith, is.tick)) }

module _ (now : SessionOf) (reader read : Feeding) (going : IsGoingOn now) where
  unfed-by : (fault : FeedFault) → Asks now reader read (Err fault) →
      NextWindow false now (ended_by now (end_by fault)) reader read (Err (end_by fault))
  unfed-by feed.NoMemory asks = session.starved going (inr (Err feed.NoMemory, asks)) refl
  unfed-by feed.ReadFault asks = session.unfed feed.ReadFault going asks (λ e. cc) refl
  unfed-by (feed.BadRecord n) asks = session.unfed (feed.BadRecord n) going asks (λ e. cc) refl
  unfed-by (feed.UnknownPlace n) asks = session.unfed (feed.UnknownPlace n) going asks (λ e. cc) refl
  unfed-by (feed.Order n) asks = session.unfed (feed.Order n) going asks (λ e. cc) refl
  unfed-by (feed.Outside n) asks = session.unfed (feed.Outside n) going asks (λ e. cc) refl
  unfed-by (feed.TooLong n) asks = session.unfed (feed.TooLong n) going asks (λ e. cc) refl

  pub unfed-end : (fault : FeedFault) (answered : WindowEnd) → answered ≡ end_by fault →
      Asks now reader read (Err fault) →
      NextWindow false now (ended_by now answered) reader read (Err answered)
  unfed-end fault answered e asks =
      subst (λ (w : WindowEnd). NextWindow false now (ended_by now w) reader read (Err w)) (sym e)
      (unfed-by fault asks)

  wide-by : (feeds : List Tube) (answered : WindowEnd) → Asks now reader read (Ok feeds) →
      IsWideEnd now.parts (bands_of_plan (next_plan now feeds)) now.tick (next_ticks now) answered →
      NextWindow false now (ended_by now answered) reader read (Err answered)
  wide-by feeds (end.Wide place) asks h = session.wide feeds place going asks h refl
  wide-by feeds end.Finished asks h = absurd h
  wide-by feeds end.NoMemory asks h = absurd h
  wide-by feeds (end.Feed fault) asks h = absurd h

  ended-by : (feeds : List Tube) (answered : WindowEnd) → Asks now reader read (Ok feeds) →
      IsPlanEnd (next_plan now feeds) answered →
      NextWindow false now (ended_by now answered) reader read (Err answered)
  ended-by feeds answered asks h = elim h [
    | inl e ↦ subst (λ (w : WindowEnd). NextWindow false now (ended_by now w) reader read (Err w)) (sym e)
        (session.starved going (inr (Ok feeds, asks)) refl)
    | inr wide ↦ wide-by feeds answered asks wide
  ]

  given-by : (feeds : List Tube) (text : List ℕ) (row : RowBands) → Asks now reader read (Ok feeds) →
      ((plan : PlanOf) (t s : ℕ) → IsPlan plan → t < plan.ticks → s < length (streams_of plan.parts) →
      AllInside (at (run_tube (window_of plan) s) t) (limits_at plan.parts s)) →
      IsStepped (next_plan now feeds) text row → NextRows now (stepped_on now row) reader read (Ok text)
  given-by feeds text row asks law h = (
    run_window (next_plan now feeds),
    session.given feeds (run_window (next_plan now feeds)) going asks (has-run (next_plan now feeds) law h.plan_is) refl h.narrow
        (ap (λ (carried : List (List Interval)).
        record { parts = now.parts; tick = now.tick + next_ticks now; carried = carried; end = None }) h.states),
    h.rows ∙ run-rows (next_plan now feeds),
  )

  -- where a window was stepped
  pub all-given : {T E : Type 0} (text : T → List ℕ) (row : T → RowBands) (feeds : List Tube) (r : Result T E) →
      Asks now reader read (Ok feeds) →
      ((plan : PlanOf) (t s : ℕ) → IsPlan plan → t < plan.ticks → s < length (streams_of plan.parts) →
      AllInside (at (run_tube (window_of plan) s) t) (limits_at plan.parts s)) →
      IfOk r (λ made. IsStepped (next_plan now feeds) (text made) (row made)) →
      IfOk r (λ made. NextRows now (stepped_on now (row made)) reader read (Ok (text made)))
  all-given text row feeds (Ok made) asks law h = given-by feeds (text made) (row made) asks law h
  all-given text row feeds (Err e) asks law h = tt

  pub all-ended : {T : Type 0} (feeds : List Tube) (r : Result T WindowEnd) → Asks now reader read (Ok feeds) →
      IfErr r (IsPlanEnd (next_plan now feeds)) →
      IfErr r (λ answered. NextRows now (ended_by now answered) reader read (Err answered))
  all-ended feeds (Ok made) asks h = tt
  all-ended feeds (Err answered) asks h = ended-by feeds answered asks h

-- and where it stands then
pub all-stand : {T E : Type 0} (text : T → List ℕ) (row : T → RowBands) (now : SessionOf) (feeds : List Tube)
    (r : Result T E) → IsSession now →
    ((plan : PlanOf) → IsPlan plan → AreCarried plan.parts (states_after plan)) →
    IfOk r (λ made. IsStepped (next_plan now feeds) (text made) (row made)) →
    IfOk r (λ made. IsStepper (stepped_on now (row made)) (row made))
all-stand text row now feeds (Err e) is law h = tt
all-stand text row now feeds (Ok made) is law h = record {
  session_is = record {
    plant = is.plant;
    tick = h.plan_is.inside;
    carried = subst (AreCarried now.parts) (sym h.states) (law (next_plan now feeds) h.plan_is);
  };
  row_is = h.row_is;
}
