-- Trajectories lie in the run, and the run on numbers is one.
use Rattle.std.proofs.Common.{◌≡◌, ℕ, ◌<◌, ℤ, List, length, refl, arith}
use Rattle.std.proofs.Math.Numerals.{add-one}
use Rattle.quant.specs.Interval.{Interval, AllHold, points}
use Rattle.flowsheet.specs.Plant.{Plant, IsRanked, feed, origin_of}
use Rattle.flowsheet.specs.Reading.{on_numbers, on_bands}
use Rattle.flowsheet.specs.Run.{run_states, run_streams}
use Rattle.flowsheet.specs.Trajectory.{IsTrajectory}
use Rattle.flowsheet.specs.Limited.{AreBands, ArePoints}
use Rattle.flowsheet.proofs.Bands.{points-hold_alone, low_ends, low_ends-hold, points-are_bands}
use Rattle.flowsheet.proofs.Readings.{at-equal, holds-kept, ArePointsOf, points-kept}
use Rattle.flowsheet.proofs.Stages.{run-fed, run-shown}
use Rattle.flowsheet.proofs.Places.{AreAlong, states-along, streams-along}

module _ (plant : Plant) (carried : ℕ → List Interval) (feeds : ℕ → ℕ → List Interval) (n : ℕ)
    (x y : ℕ → ℕ → List ℤ) where
  -- a trajectory's relations keep it in the run
  trajectory-along : IsRanked plant → IsTrajectory plant carried feeds n x y →
      AreAlong (on_bands plant) (on_numbers plant) AllHold plant n
      (run_streams (on_bands plant) plant carried feeds) (run_states (on_bands plant) plant carried feeds) x y
  trajectory-along ranked trajectory = record {
    opening = trajectory.opening;
    fed = λ t s f m l e. at-equal AllHold (run-fed (on_bands plant) plant carried feeds t s f e) refl
        (trajectory.fed t s f m l e);
    outputs = λ t s u p m l e g. at-equal AllHold (run-shown (on_bands plant) plant carried feeds ranked t s u p l e)
        (trajectory.outputs t s u p m l e) g;
    steps = λ t u m l g. at-equal AllHold refl (rw add-one at (trajectory.steps t u (omega arith) l)) g;
  }

  -- the run's streams hold each trajectory's
  pub streams-hold : IsRanked plant → IsTrajectory plant carried feeds n x y →
      (t s : ℕ) → t < n → s < length plant.streams →
      AllHold (run_streams (on_bands plant) plant carried feeds t s) (x t s)
  streams-hold ranked trajectory = streams-along (holds-kept plant.rounding) ranked (trajectory-along ranked trajectory)

  -- and its states its states
  pub states-hold : IsRanked plant → IsTrajectory plant carried feeds n x y →
      (t u : ℕ) → t < n → u < length plant.units →
      AllHold (run_states (on_bands plant) plant carried feeds t u) (y t u)
  states-hold ranked trajectory = states-along (holds-kept plant.rounding) ranked (trajectory-along ranked trajectory)

  -- where what is carried in and fed is one number each, the trajectory's relations keep the run at its numbers
  points-along : IsRanked plant → ArePoints plant carried feeds n → IsTrajectory plant carried feeds n x y →
      AreAlong (on_bands plant) (on_numbers plant) ArePointsOf plant n
      (run_streams (on_bands plant) plant carried feeds) (run_states (on_bands plant) plant carried feeds) x y
  points-along ranked single trajectory = record {
    opening = λ u l. points-hold_alone (carried u) _ (y 0 u) (single.states u l).1 (trajectory.opening u l);
    fed = λ t s f m l e. at-equal ArePointsOf (run-fed (on_bands plant) plant carried feeds t s f e) refl
        (points-hold_alone (feeds t f) _ (x t s) (single.fed t s f m l e).1 (trajectory.fed t s f m l e));
    outputs = λ t s u p m l e g. at-equal ArePointsOf (run-shown (on_bands plant) plant carried feeds ranked t s u p l e)
        (trajectory.outputs t s u p m l e) g;
    steps = λ t u m l g. at-equal ArePointsOf refl (rw add-one at (trajectory.steps t u (omega arith) l)) g;
  }

  -- so the run is the trajectory
  pub streams-points : IsRanked plant → ArePoints plant carried feeds n → IsTrajectory plant carried feeds n x y →
      (t s : ℕ) → t < n → s < length plant.streams →
      run_streams (on_bands plant) plant carried feeds t s ≡ points (x t s)
  streams-points ranked single trajectory =
      streams-along (points-kept plant.rounding) ranked (points-along ranked single trajectory)

  -- also in its states
  pub states-points : IsRanked plant → ArePoints plant carried feeds n → IsTrajectory plant carried feeds n x y →
      (t u : ℕ) → t < n → u < length plant.units → run_states (on_bands plant) plant carried feeds t u ≡ points (y t u)
  states-points ranked single trajectory =
      states-along (points-kept plant.rounding) ranked (points-along ranked single trajectory)

-- the run on numbers that lie in the bands is a trajectory
pub run-trajectory : (plant : Plant) (carried : ℕ → List Interval) (feeds : ℕ → ℕ → List Interval) (n : ℕ)
    (held : ℕ → List ℤ) (given : ℕ → ℕ → List ℤ) → IsRanked plant →
    ((u : ℕ) → u < length plant.units → AllHold (carried u) (held u)) →
    ((t s f : ℕ) → t < n → s < length plant.streams → origin_of plant s ≡ feed f → AllHold (feeds t f) (given t f)) →
    IsTrajectory plant carried feeds n
    (run_streams (on_numbers plant) plant held given) (run_states (on_numbers plant) plant held given)
run-trajectory plant carried feeds n held given ranked h k = record {
  opening = h;
  fed = λ t s f m l e. at-equal AllHold refl (run-fed (on_numbers plant) plant held given t s f e) (k t s f m l e);
  outputs = λ t s u p m l e. run-shown (on_numbers plant) plant held given ranked t s u p l e;
  steps = λ t u m l. rw add-one refl;
}

module _ (plant : Plant) (carried : ℕ → List Interval) (feeds : ℕ → ℕ → List Interval) (n : ℕ) where
  -- what carries the bands' low ends along
  abbrev low_streams : ℕ → ℕ → List ℤ
  low_streams = run_streams (on_numbers plant) plant (λ u. low_ends (carried u)) (λ t f. low_ends (feeds t f))

  abbrev low_states : ℕ → ℕ → List ℤ
  low_states = run_states (on_numbers plant) plant (λ u. low_ends (carried u)) (λ t f. low_ends (feeds t f))

  -- is a trajectory where these are bands
  pub low-trajectory : IsRanked plant → AreBands plant carried feeds n → IsTrajectory plant carried feeds n low_streams low_states
  low-trajectory ranked bands = run-trajectory plant carried feeds n _ _ ranked
      (λ u l. low_ends-hold (carried u) (bands.states u l))
      (λ t s f m l e. low_ends-hold (feeds t f) (bands.fed t s f m l e))

  -- and where they are points
  pub point-trajectory : IsRanked plant → ArePoints plant carried feeds n →
      IsTrajectory plant carried feeds n low_streams low_states
  point-trajectory ranked single = run-trajectory plant carried feeds n _ _ ranked
      (λ u l. low_ends-hold (carried u) (points-are_bands (carried u) _ (single.states u l).1))
      (λ t s f m l e. low_ends-hold (feeds t f) (points-are_bands (feeds t f) _ (single.fed t s f m l e).1))
