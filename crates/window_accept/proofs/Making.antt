-- How a session's next window is made, and how the session ends where it is not.
use Rattle.std.proofs.Common.{◌≡◌, ◌∙◌, ℕ, ◌+◌, ◌<◌, ◌≤◌, Bool, true, List, map, inr, refl, sym, ap, subst, arith, None}
use Rattle.std.proofs.Common.{Result, Ok, Err}
use Rattle.quant.specs.Interval.{Interval}
use Rattle.relaxation.specs.Tube.{Tube}
use Rattle.parts.specs.Parts.{FileParts}
use Rattle.plant_units.specs.Units.{units_of, opening_of}
use Rattle.plant.specs.Sound.{IsPlant}
use Rattle.renewal.specs.Plan.{PlanOf, window_of, AreCarried, IsPlan}
use Rattle.renewal.specs.Carrying.{states_after}
use Rattle.feeds.specs.Given.{run_plan, given_by}
use Rattle.feeds.specs.ReaderOf.{Feeding}
use Rattle.feeds.specs.Reader.{Gives, AreFeedTubes}
use Rattle.feeds.specs.declared.reader.FeedFault.{FeedFault}
use Rattle.feeds.specs.declared.reader.FeedFault.TheVariants as feed
use Rattle.feeds.proofs.Windows.{is-plan, opening-is}
use Rattle.feeds.proofs.Limits.{given-within}
use Rattle.relax_core.specs.Settled.{Settles}
use Rattle.window_accept.specs.declared.wide.TooWide.{TooWide}
use Rattle.window_accept.specs.declared.end.WindowEnd.TheVariants as end
use Rattle.window_accept.specs.declared.settling.Settled.{Settled}
use Rattle.window_accept.specs.Wide.{AreNarrowEnough, IsFirstWide}
use Rattle.window_accept.specs.Session.{SessionOf, IsSession, HasRunOf, IsGoingOn, Asks, NextWindow, ended_by, next_ticks, next_plan}
use Rattle.window_accept.specs.Session.{end_by, given, finished, unfed, wide, starved, bands_of_plan}
use Rattle.window_accept.specs.Making.{IsSettledFor, IsPlanned, IsNext}
use Rattle.window_accept.proofs.Following.{some-ticks, few-ticks, ticks-inside}

-- a reader's fault ends the session
pub fault-ends : (relaxes : Bool) (session : SessionOf) (reader read : Feeding) (fault : FeedFault) → IsGoingOn session →
    Asks session reader read (Err fault) →
    NextWindow relaxes session (ended_by session (end_by fault)) reader read (Err (end_by fault))
fault-ends relaxes session reader read feed.NoMemory going asks = starved going (inr (Err feed.NoMemory, asks)) refl
fault-ends relaxes session reader read (feed.BadRecord at) going asks = unfed (feed.BadRecord at) going asks (λ e. cc) refl
fault-ends relaxes session reader read (feed.UnknownPlace at) going asks = unfed (feed.UnknownPlace at) going asks (λ e. cc) refl
fault-ends relaxes session reader read (feed.Order at) going asks = unfed (feed.Order at) going asks (λ e. cc) refl
fault-ends relaxes session reader read (feed.Outside at) going asks = unfed (feed.Outside at) going asks (λ e. cc) refl
fault-ends relaxes session reader read (feed.TooLong at) going asks = unfed (feed.TooLong at) going asks (λ e. cc) refl
fault-ends relaxes session reader read feed.ReadFault going asks = unfed feed.ReadFault going asks (λ e. cc) refl

-- the session before the first window is one
pub opening-session : (file : FileParts) (carried : List (List Interval)) → IsPlant file →
    carried ≡ map opening_of (units_of file) →
    IsSession (record { parts = file; tick = 0; carried = carried; end = None })
opening-session file carried plant is =
    let plan : IsPlan (run_plan file (given_by file None) 0 1) = is-plan file (given_by file None) plant
    (given-within file None plant) 0 1 (omega arith) (omega arith) (omega (arith, plant.ranges.ticks.0)) in
    let same : (run_plan file (given_by file None) 0 1).carried ≡ carried = opening-is file (given_by file None) 1 ∙ sym is in
    record {
      plant = plant;
      tick = omega arith;
      carried = subst (AreCarried file) same (record { counted = plan.units; within = plan.carried });
    }

-- what the reader was asked, by a session that is seen
pub asked-by : (seen session : SessionOf) (n : ℕ) (reader read : Feeding) (answer : Result (List Tube) FeedFault) →
    seen ≡ session → n ≡ next_ticks session → Gives seen.parts seen.tick n reader read answer → Asks session reader read answer
asked-by seen session n reader read answer same e gives =
    subst (λ (s : SessionOf). Gives s.parts s.tick (next_ticks session) reader read answer) same
    (subst (λ (k : ℕ). Gives seen.parts seen.tick k reader read answer) e gives)

-- a session's next window can be planned, as tubes of feeds can
module _ (seen session : SessionOf) (n : ℕ) (carried : List (List Interval)) (tubes : List Tube) (reader read : Feeding)
    (same : seen ≡ session) (is : IsSession seen) (going : IsGoingOn session) (counted : n ≡ next_ticks session)
    (carried_is : carried ≡ seen.carried) (gives : Gives seen.parts seen.tick n reader read (Ok tubes)) where
  pub can-be-planned : ((plan : PlanOf) → IsPlant plan.parts → 1 ≤ plan.ticks → plan.ticks ≤ 64 →
      plan.first + plan.ticks ≤ plan.parts.ticks → AreCarried plan.parts plan.carried →
      AreFeedTubes plan.parts plan.ticks plan.feeds → IsPlan plan) →
      IsPlan (record { parts = seen.parts; first = seen.tick; ticks = n; carried = carried; feeds = tubes })
  can-be-planned law =
      let ticks : n ≡ next_ticks seen = counted ∙ ap (λ (s : SessionOf). next_ticks s) (sym same) in
      let left : seen.tick < seen.parts.ticks = subst (λ (s : SessionOf). s.tick < s.parts.ticks) (sym same) going.left in
      law (record { parts = seen.parts; first = seen.tick; ticks = n; carried = carried; feeds = tubes }) is.plant
      (omega (arith, some-ticks seen is left)) (omega (arith, few-ticks seen is)) (omega (arith, ticks-inside seen is))
      (subst (AreCarried seen.parts) (sym carried_is) is.carried) gives.tubes

-- it has ended where no tick is left
pub finishes : (relaxes : Bool) (seen session : SessionOf) (reader : Feeding) (ticks : ℕ) → seen ≡ session → IsSession seen →
    session.end ≡ None → ticks ≡ seen.parts.ticks → ticks ≤ seen.tick →
    NextWindow relaxes session (ended_by session end.Finished) reader reader (Err end.Finished)
finishes relaxes seen session reader ticks same is unended e h =
    let last : seen.tick ≡ seen.parts.ticks = omega (arith, is.tick) in
    finished unended (subst (λ (s : SessionOf). s.tick ≡ s.parts.ticks) same last) refl refl

pub goes-on : (seen session : SessionOf) (ticks : ℕ) → seen ≡ session → session.end ≡ None → ticks ≡ seen.parts.ticks →
    seen.tick < ticks → IsGoingOn session
goes-on seen session ticks same unended e h = record {
  unended = unended;
  left = subst (λ (s : SessionOf). s.tick < s.parts.ticks) same (let l : seen.tick < seen.parts.ticks = omega arith in l);
}

-- a planned window ends the session, or moves it on
module _ (session : SessionOf) (reader read : Feeding) (plan : PlanOf) (going : IsGoingOn session)
    (planned : IsPlanned session reader read plan) where
  pub planned-starved : NextWindow true session (ended_by session end.NoMemory) reader read (Err end.NoMemory)
  planned-starved = starved going (inr (Ok planned.feeds, planned.asks)) refl

  pub planned-wide : (place : TooWide) → IsFirstWide plan.parts (bands_of_plan plan) plan.first plan.ticks place →
      NextWindow true session (ended_by session (end.Wide place)) reader read (Err (end.Wide place))
  planned-wide place first = wide planned.feeds place going planned.asks
      (subst (λ (p : PlanOf). IsFirstWide p.parts (bands_of_plan p) p.first p.ticks place) planned.plan_is first) refl

  pub planned-next : (settled : Settled) → IsSession session → IsSettledFor plan settled →
      AreNarrowEnough plan.parts (bands_of_plan plan) plan.first plan.ticks → AreCarried plan.parts (states_after plan) →
      IsNext session reader read settled
  planned-next settled is made narrow within =
      let f : plan ≡ next_plan session planned.feeds = planned.plan_is in
      record {
        feeds = planned.feeds;
        next = given planned.feeds settled.window going planned.asks
            (subst (λ (p : PlanOf). HasRunOf p settled.window) f made.run)
            (subst (λ (p : PlanOf). Settles (window_of p) settled.window.steps) f made.made)
            (subst (λ (p : PlanOf). AreNarrowEnough p.parts (bands_of_plan p) p.first p.ticks) f narrow) refl;
        stays = record {
          plant = is.plant;
          tick = ticks-inside session is;
          carried = subst (λ (p : PlanOf). AreCarried p.parts (states_after p)) f within;
        };
        ticks = made.run.ticks ∙ ap (λ (p : PlanOf). p.ticks) f;
        carried = made.carried ∙ ap (λ (p : PlanOf). states_after p) f;
      }
