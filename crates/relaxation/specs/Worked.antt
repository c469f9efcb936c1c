-- A worked window: two ticks of a tank of 1000 mL that takes in 10 to 12 mL a tick and loses a hundredth of itself.
use Rattle.std.specs.Prelude.{ℕ, pos, false, List, [], ◌∷◌, replicate, slice_index_or}
use Rattle.quant.specs.Interval.{Interval, point}
use Rattle.quant.specs.Rounding.{Floor}
use Rattle.quant.specs.Term.{Term, state, input, number, sum, share_of, rest_of, blend_of, clamped}
use Rattle.flowsheet.specs.Plant.{Plant, PlantUnit, feed, port}
use Rattle.relaxation.specs.Tube.{Tube}
use Rattle.relaxation.specs.Window.{Window}
use Rattle.relaxation.specs.Core.{Step}
use Rattle.relaxation.specs.History.{Version, History}
use Rattle.relaxation.specs.Gathered.{Made}

abbrev pub between : ℕ → ℕ → Interval
between lo hi = record { lo = pos lo; hi = pos hi }

-- the limits of flows, concentrations and temperatures, of volumes and of signals
abbrev pub amounts : Interval
amounts = between 0 1000000

abbrev pub volumes : Interval
volumes = between 1 1000000

abbrev pub signals : Interval
signals = between 0 2000000

-- the ppm of the volume that flow out
abbrev pub drained : Term
drained = share_of (number (pos 10000)) (input 3)

-- the tank: it reads the feeds, stream 0 and 1, and gives its outflow and its level
abbrev pub tank : PlantUnit
tank = record {
  instant = false;
  reads = 0 ∷ 1 ∷ [];
  next =
      clamped volumes (sum (rest_of (state 0) drained) (input 0))
      ∷ clamped amounts (share_of (state 0) drained)
      ∷ clamped amounts (blend_of (state 2) (input 1) (input 0) (state 0))
      ∷ clamped amounts (blend_of (state 3) (input 2) (input 0) (state 0))
      ∷ [];
  view = (state 1 ∷ state 2 ∷ state 3 ∷ []) ∷ (clamped signals (state 0) ∷ []) ∷ [];
  state_limits = volumes ∷ amounts ∷ amounts ∷ amounts ∷ [];
  output_limits = (amounts ∷ amounts ∷ amounts ∷ []) ∷ (signals ∷ []) ∷ [];
}

abbrev pub plant : Plant
plant = record {
  units = tank ∷ [];
  streams = feed 0 ∷ feed 1 ∷ port 0 0 ∷ port 0 1 ∷ [];
  ranks = 0 ∷ [];
  top = 0;
  rounding = Floor;
}

-- what flows in, how far the valve is open, and the tank's opening bands
abbrev pub inflow : List Interval
inflow = between 10 12 ∷ point (pos 100) ∷ point (pos 300000) ∷ []

abbrev pub valve : List Interval
valve = point (pos 1000000) ∷ []

abbrev pub opened : List Interval
opened = point (pos 1000) ∷ point (pos 10) ∷ point (pos 0) ∷ point (pos 300000) ∷ []

-- feeds open with their bands, the tank's streams with its limits
abbrev pub opening : List Tube
opening =
    replicate 2 inflow ∷ replicate 2 valve ∷ replicate 2 (amounts ∷ amounts ∷ amounts ∷ []) ∷ replicate 2 (signals ∷ []) ∷ []

abbrev pub window : Window
window = record {
  plant = plant;
  ticks = 2;
  carried = λ u. slice_index_or (opened ∷ []) u [];
  feeds = λ t f. slice_index_or (inflow ∷ valve ∷ []) f [];
  opening = λ s. slice_index_or opening s [];
}

-- the outflow from the feeds, and then the level
abbrev pub outflow_step : Step
outflow_step = record { stream = 2; inputs = 0 ∷ 0 ∷ [] }

abbrev pub level_step : Step
level_step = record { stream = 3; inputs = 0 ∷ 0 ∷ [] }

-- a version that is not there
abbrev pub early_step : Step
early_step = record { stream = 2; inputs = 0 ∷ 7 ∷ [] }

-- the tubes of the outflow and of the level
abbrev pub outflow_tube : Tube
outflow_tube =
    (point (pos 10) ∷ point (pos 0) ∷ point (pos 300000) ∷ [])
    ∷ (point (pos 10) ∷ point (pos 1) ∷ point (pos 300000) ∷ [])
    ∷ []

abbrev pub level_tube : Tube
level_tube = (point (pos 1000) ∷ []) ∷ (between 1000 1002 ∷ []) ∷ []

-- what two makers leave: the outflow's version at stamp 1 and the level's at stamp 2, each from the opening feeds
abbrev pub outflow_version : Version
outflow_version = record { number = 1; maker = 0; stamp = 1; refs = 0 ∷ 0 ∷ []; tube = outflow_tube }

abbrev pub level_version : Version
level_version = record { number = 1; maker = 1; stamp = 2; refs = 0 ∷ 0 ∷ []; tube = level_tube }

-- the version that a stream opens with
abbrev pub opening_version : ℕ → Version
opening_version s = record { number = 0; maker = 0; stamp = 0; refs = []; tube = window.opening s }

abbrev pub histories : List History
histories =
    (opening_version 0 ∷ []) ∷ (opening_version 1 ∷ [])
    ∷ (opening_version 2 ∷ outflow_version ∷ []) ∷ (opening_version 3 ∷ level_version ∷ []) ∷ []

-- the same, but that the outflow's version names a version that is not there
abbrev pub unsound : List History
unsound =
    (opening_version 0 ∷ []) ∷ (opening_version 1 ∷ [])
    ∷ (opening_version 2 ∷ record outflow_version { refs = 0 ∷ 7 ∷ [] } ∷ [])
    ∷ (opening_version 3 ∷ level_version ∷ []) ∷ []

-- the two made versions, by their stamps
abbrev pub gathered : List Made
gathered =
    record { stream = 2; version = outflow_version } ∷ record { stream = 3; version = level_version } ∷ []
