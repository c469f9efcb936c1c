-- A trajectory: tables of whole numbers that the plant's equations, the opening bands and the feed bands allow.
use Rattle.std.specs.Prelude.{◌≡◌, ℕ, ◌+◌, ◌<◌, ℤ, List, length}
use Rattle.quant.specs.Interval.{Interval, AllHold}
use Rattle.flowsheet.specs.Plant.{Plant, feed, port, unit_at, origin_of}
use Rattle.flowsheet.specs.Reading.{on_numbers, inputs_of, shown, stepped}

-- x has the channels of each stream at each tick, y the states of each unit. No order of computing is named.
pub record IsTrajectory (plant : Plant) (carried : ℕ → List Interval) (feeds : ℕ → ℕ → List Interval) (n : ℕ) (x y : ℕ → ℕ → List ℤ) : Type 0 where
  -- the states at the first tick lie in the bands that are carried into it
  pub opening : (u : ℕ) → u < length plant.units → AllHold (carried u) (y 0 u)
  -- each feed lies in its bands
  pub fed : (t s f : ℕ) → t < n → s < length plant.streams → origin_of plant s ≡ feed f → AllHold (feeds t f) (x t s)
  -- each output is what its unit shows
  pub outputs : (t s u p : ℕ) → t < n → s < length plant.streams → origin_of plant s ≡ port u p →
      x t s ≡ shown (on_numbers plant) (unit_at plant u) p (y t u) (inputs_of (unit_at plant u) (x t))
  -- each state at the next tick is what its unit steps to
  pub steps : (t u : ℕ) → t + 1 < n → u < length plant.units →
      y (t + 1) u ≡ stepped (on_numbers plant) (unit_at plant u) (y t u) (inputs_of (unit_at plant u) (x t))
