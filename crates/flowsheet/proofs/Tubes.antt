-- Tubes that renew to no narrower ones lie in the run.
use Rattle.std.proofs.Common.{◌≡◌, ℕ, ◌<◌, List, length, refl, subst}
use Rattle.quant.specs.Interval.{Interval, AllBands, AllInside}
use Rattle.flowsheet.specs.Plant.{Plant, feed, unit_at, origin_of, IsRanked}
use Rattle.flowsheet.specs.Reading.{on_bands, inputs_of}
use Rattle.flowsheet.specs.Run.{run_states, run_streams}
use Rattle.flowsheet.specs.Renewal.{renewed_states, renewed_origin, renewed_stream}
use Rattle.flowsheet.specs.Limited.{AreBands}
use Rattle.flowsheet.proofs.Bands.{inside-itself, inside-wider}
use Rattle.flowsheet.proofs.Readings.{at-equal, AreBandsIn, bands-kept}
use Rattle.flowsheet.proofs.Stages.{run-fed, run-shown}
use Rattle.flowsheet.proofs.Places.{AreAlong, streams-along}

-- tubes that are bands, that lie in the feeds' bands where a feed gives them, and that renew to no narrower ones
module _ (plant : Plant) (carried : ℕ → List Interval) (feeds : ℕ → ℕ → List Interval) (n : ℕ)
    (tubes : ℕ → ℕ → List Interval) (ranked : IsRanked plant) (bands : AreBands plant carried feeds n)
    (are : (t s : ℕ) → t < n → s < length plant.streams → AllBands (tubes t s))
    (fed : (t s f : ℕ) → t < n → s < length plant.streams → origin_of plant s ≡ feed f → AllInside (tubes t s) (feeds t f))
    (quiet : (t s : ℕ) → t < n → s < length plant.streams →
    AllInside (tubes t s) (renewed_stream (on_bands plant) plant carried tubes t s)) where
  -- the states of each unit, renewed from the tubes
  abbrev tube_states : ℕ → ℕ → List Interval
  tube_states t u = renewed_states (on_bands plant) (unit_at plant u) (carried u)
      (λ q. inputs_of (unit_at plant u) (tubes q)) t

  -- they lie in the run at each place where they do at lesser ones
  tubes-along : AreAlong (on_bands plant) (on_bands plant) AreBandsIn plant n tubes tube_states
      (run_streams (on_bands plant) plant carried feeds) (run_states (on_bands plant) plant carried feeds)
  tubes-along = record {
    opening = λ u l. record { bands = bands.states u l; inside = inside-itself (carried u) };
    fed = λ t s f m l e. at-equal AreBandsIn refl (run-fed (on_bands plant) plant carried feeds t s f e)
        (record { bands = are t s m l; inside = fed t s f m l e });
    outputs = λ t s u p m l e g. at-equal AreBandsIn refl
        (run-shown (on_bands plant) plant carried feeds ranked t s u p l e) (record {
          bands = are t s m l;
          inside = inside-wider (tubes t s) _ _
              (subst (λ o. AllInside (tubes t s) (renewed_origin (on_bands plant) plant carried tubes t s o))
              e (quiet t s m l)) g.inside;
        });
    steps = λ t u m l g. g;
  }

  -- so they do at each place
  pub quiet-inside : (t s : ℕ) → t < n → s < length plant.streams →
      AllInside (tubes t s) (run_streams (on_bands plant) plant carried feeds t s)
  quiet-inside t s m l = (streams-along (bands-kept plant.rounding) ranked tubes-along t s m l).inside
