-- Runs from related openings and feeds are related, so the run's bands have numbers in them.
use Rattle.std.proofs.Common.{◌≡◌, ℕ, zero, suc, ◌≤◌, ◌<◌, List, length, arith}
use Rattle.quant.specs.Interval.{Interval, AllBands}
use Rattle.flowsheet.specs.Plant.{Plant, feed, unit_at, origin_of, IsRanked}
use Rattle.flowsheet.specs.Reading.{Reader, on_bands, inputs_of}
use Rattle.flowsheet.specs.Run.{run_states, run_streams}
use Rattle.flowsheet.specs.Limited.{AreBands}
use Rattle.flowsheet.proofs.Bands.{inside-itself}
use Rattle.flowsheet.proofs.Readings.{at-equal, IsKept, AreBandsIn, bands-kept, inputs-kept, stepped-kept}
use Rattle.flowsheet.proofs.Stages.{run-fed, run-shown}
use Rattle.flowsheet.proofs.Places.{AreAlong, streams-along}

-- what is carried into units that are there is related, and what is fed to streams that are there at n ticks
pub record AreGiven {A B : Type 0} (R : List A → List B → Type 0) (plant : Plant) (n : ℕ)
    (carried : ℕ → List A) (feeds : ℕ → ℕ → List A) (held : ℕ → List B) (given : ℕ → ℕ → List B) : Type 0 where
  pub states : (u : ℕ) → u < length plant.units → R (carried u) (held u)
  pub fed : (t s f : ℕ) → t < n → s < length plant.streams → origin_of plant s ≡ feed f → R (feeds t f) (given t f)

module _ {A B : Type 0} {read : Reader A} {other : Reader B} {R : List A → List B → Type 0} (plant : Plant) (n : ℕ)
    (carried : ℕ → List A) (feeds : ℕ → ℕ → List A) (held : ℕ → List B) (given : ℕ → ℕ → List B) where
  -- the runs' equations carry the relation along
  runs-along : IsRanked plant → AreGiven R plant n carried feeds held given →
      AreAlong read other R plant n (run_streams read plant carried feeds) (run_states read plant carried feeds)
      (run_streams other plant held given) (run_states other plant held given)
  runs-along ranked are = record {
    opening = are.states;
    fed = λ t s f m l e. at-equal R (run-fed read plant carried feeds t s f e) (run-fed other plant held given t s f e)
        (are.fed t s f m l e);
    outputs = λ t s u p m l e g. at-equal R (run-shown read plant carried feeds ranked t s u p l e)
        (run-shown other plant held given ranked t s u p l e) g;
    steps = λ t u m l g. g;
  }

  -- the streams of the two runs
  pub streams-related : IsKept read other R → IsRanked plant → AreGiven R plant n carried feeds held given →
      (t s : ℕ) → t < n → s < length plant.streams →
      R (run_streams read plant carried feeds t s) (run_streams other plant held given t s)
  streams-related kept ranked are = streams-along kept ranked (runs-along ranked are)

  -- and their states, also after the last tick
  pub states-related : IsKept read other R → IsRanked plant → AreGiven R plant n carried feeds held given →
      (t u : ℕ) → t ≤ n → u < length plant.units →
      R (run_states read plant carried feeds t u) (run_states other plant held given t u)
  states-related kept ranked are zero u m l = are.states u l
  states-related kept ranked are (suc t) u m l = stepped-kept kept (unit_at plant u) _ _ _ _
      (states-related kept ranked are t u (omega arith) l)
      (inputs-kept kept (unit_at plant u) _ _ (λ q c.
      streams-related kept ranked are t q (omega arith) (ranked.reads u q l c)))

module _ (plant : Plant) (carried : ℕ → List Interval) (feeds : ℕ → ℕ → List Interval) (n : ℕ) where
  -- bands that are carried in or fed lie in themselves
  given-itself : AreBands plant carried feeds n → AreGiven AreBandsIn plant n carried feeds carried feeds
  given-itself bands = record {
    states = λ u l. record { bands = bands.states u l; inside = inside-itself (carried u) };
    fed = λ t s f m l e. record { bands = bands.fed t s f m l e; inside = inside-itself (feeds t f) };
  }

  -- the run's states are bands
  pub states-bands : IsRanked plant → AreBands plant carried feeds n → (t u : ℕ) → t ≤ n → u < length plant.units →
      AllBands (run_states (on_bands plant) plant carried feeds t u)
  states-bands ranked bands t u m l = (states-related plant n carried feeds carried feeds
      (bands-kept plant.rounding) ranked (given-itself bands) t u m l).bands

  -- and so are its streams
  pub streams-bands : IsRanked plant → AreBands plant carried feeds n → (t s : ℕ) → t < n → s < length plant.streams →
      AllBands (run_streams (on_bands plant) plant carried feeds t s)
  streams-bands ranked bands t s m l = (streams-related plant n carried feeds carried feeds
      (bands-kept plant.rounding) ranked (given-itself bands) t s m l).bands

  -- and the inputs of each unit
  pub inputs-bands : IsRanked plant → AreBands plant carried feeds n → (t u : ℕ) → t < n → u < length plant.units →
      AllBands (inputs_of (unit_at plant u) (run_streams (on_bands plant) plant carried feeds t))
  inputs-bands ranked bands t u m l = (inputs-kept (bands-kept plant.rounding) (unit_at plant u) _ _ (λ q c.
      streams-related plant n carried feeds carried feeds (bands-kept plant.rounding) ranked (given-itself bands) t q m
      (ranked.reads u q l c))).bands
