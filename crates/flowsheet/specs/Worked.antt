-- A small plant in which a stream comes round again.
use Rattle.std.specs.Prelude.{pos, true, false, [], ◌∷◌}
use Rattle.quant.specs.Interval.{wide}
use Rattle.quant.specs.Rounding.{Floor}
use Rattle.quant.specs.Term.{state, input, sum, share_of, number}
use Rattle.flowsheet.specs.Plant.{Plant, PlantUnit, feed, port}

-- adds its two inputs at once
abbrev pub small_mixer : PlantUnit
small_mixer = record {
  instant = true;
  reads = 0 ∷ (2 ∷ []);
  next = [];
  view = (sum (input 0) (input 1) ∷ []) ∷ [];
  state_limits = [];
  output_limits = (wide ∷ []) ∷ [];
}

-- holds half of its input for a tick
abbrev pub small_tank : PlantUnit
small_tank = record {
  instant = false;
  reads = 1 ∷ [];
  next = share_of (input 0) (number (pos 500000)) ∷ [];
  view = (state 0 ∷ []) ∷ [];
  state_limits = wide ∷ [];
  output_limits = (wide ∷ []) ∷ [];
}

-- The mixer adds a feed and what the tank shows, and the tank reads what the mixer gives.
abbrev pub small_recycle : Plant
small_recycle = record {
  units = small_mixer ∷ (small_tank ∷ []);
  streams = feed 0 ∷ (port 0 0 ∷ (port 1 0 ∷ []));
  ranks = 1 ∷ (0 ∷ []);
  top = 1;
  rounding = Floor;
}
