-- A window: some ticks of a plant, from bands carried into the first, with the feeds' bands and the tubes that its streams open with.
use Rattle.std.specs.Prelude.{◌≡◌, ℕ, ◌<◌, List, length, flat_map}
use Rattle.quant.specs.Interval.{Interval}
use Rattle.flowsheet.specs.Plant.{Plant, IsRanked, feed, unit_at, origin_of}
use Rattle.flowsheet.specs.Reading.{on_bands}
use Rattle.flowsheet.specs.Run.{run_streams}
use Rattle.flowsheet.specs.Renewal.{renewed}
use Rattle.flowsheet.specs.Limited.{AreBands}
use Rattle.relaxation.specs.Tube.{Tube, at, tube_of, IsWithin}

pub record Window : Type 0 where
  pub plant : Plant
  pub ticks : ℕ
  pub carried : ℕ → List Interval
  pub feeds : ℕ → ℕ → List Interval
  -- of each stream
  pub opening : ℕ → Tube

-- the run of a stream over the window
abbrev pub run_tube : Window → ℕ → Tube
run_tube window s = tube_of (λ t. run_streams (on_bands window.plant) window.plant window.carried window.feeds t s) window.ticks

-- A window that can be relaxed: the opening tubes hold the run, and those of feeds are the feeds' bands.
pub record IsOpen (window : Window) : Type 0 where
  pub ranked : IsRanked window.plant
  pub bands : AreBands window.plant window.carried window.feeds window.ticks
  pub holds : (s : ℕ) → s < length window.plant.streams → IsWithin (run_tube window s) (window.opening s)
  pub fed : (s f : ℕ) → s < length window.plant.streams → origin_of window.plant s ≡ feed f →
      window.opening s ≡ tube_of (λ t. window.feeds t f) window.ticks

-- the inputs of a unit at a tick, from a tube for each of its ports
abbrev pub row_of : List Tube → ℕ → List Interval
row_of tubes t = flat_map (λ tube. at tube t) tubes

-- the renewal of a unit's output from a tube for each of its ports
abbrev pub renewal : Window → ℕ → ℕ → List Tube → Tube
renewal window u p tubes = tube_of (renewed (on_bands window.plant) (unit_at window.plant u) p (window.carried u) (row_of tubes)) window.ticks
