-- A run whose units keep their limits stays in these.
use Rattle.std.proofs.Common.{◌≡◌, ℕ, zero, suc, ◌≤◌, ◌<◌, List, [], length, refl, arith}
use Rattle.std.specs.Prelude.{slice_index_or}
use Rattle.quant.specs.Interval.{Interval, AllInside}
use Rattle.flowsheet.specs.Plant.{Plant, port, unit_at, origin_of, IsRanked}
use Rattle.flowsheet.specs.Reading.{on_bands}
use Rattle.flowsheet.specs.Run.{run_states, run_streams}
use Rattle.flowsheet.specs.Limited.{AreBands, IsLimited}
use Rattle.flowsheet.proofs.Ranks.{unit_there}
use Rattle.flowsheet.proofs.Readings.{at-equal}
use Rattle.flowsheet.proofs.Stages.{run-shown}
use Rattle.flowsheet.proofs.Runs.{states-bands, inputs-bands}

module _ (plant : Plant) (carried : ℕ → List Interval) (feeds : ℕ → ℕ → List Interval) (n : ℕ) where
  -- its states
  pub states-limited : IsRanked plant → AreBands plant carried feeds n → IsLimited plant carried →
      (t u : ℕ) → t ≤ n → u < length plant.units →
      AllInside (run_states (on_bands plant) plant carried feeds t u) (unit_at plant u).state_limits
  states-limited ranked bands limited zero u m l = limited.starts u l
  states-limited ranked bands limited (suc t) u m l = (limited.keeps u l).next _ _
      (states-bands plant carried feeds n ranked bands t u (omega arith) l)
      (inputs-bands plant carried feeds n ranked bands t u (omega arith) l)

  -- and its outputs
  pub stream-limited : IsRanked plant → AreBands plant carried feeds n → IsLimited plant carried →
      (t s u p : ℕ) → t < n → s < length plant.streams → origin_of plant s ≡ port u p →
      AllInside (run_streams (on_bands plant) plant carried feeds t s)
      (slice_index_or (unit_at plant u).output_limits p [])
  stream-limited ranked bands limited t s u p m l e =
      let v : u < length plant.units = unit_there plant s u p ranked l e in
      at-equal AllInside (run-shown (on_bands plant) plant carried feeds ranked t s u p l e) refl
      ((limited.keeps u v).view p _ _
      (states-bands plant carried feeds n ranked bands t u (omega arith) v)
      (inputs-bands plant carried feeds n ranked bands t u m v)
      (states-limited ranked bands limited t u (omega arith) v))
