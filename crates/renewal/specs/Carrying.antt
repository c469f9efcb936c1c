-- What is carried out of a window: the bands of each unit's states at the tick after it.
use Rattle.std.specs.Prelude.{ℕ, List, [], length, map, slice_index_or}
use Rattle.std.specs.List.{range_with_len}
use Rattle.quant.specs.Interval.{Interval}
use Rattle.flowsheet.specs.Reading.{on_bands}
use Rattle.flowsheet.specs.Run.{run_states}
use Rattle.relaxation.specs.Tube.{Tube, at}
use Rattle.plant_units.specs.Units.{units_of}
use Rattle.plant.specs.PlantOf.{plant_of}
use Rattle.renewal.specs.Plan.{PlanOf, window_of, carried_into}
use Rattle.renewal.specs.Room.{planned, renewal_of}

-- of these tubes of all streams, those that a unit reads
abbrev pub read_by : PlanOf → ℕ → List Tube → List Tube
read_by plan u tubes = map (λ s. slice_index_or tubes s []) (planned plan u).reads

-- the states that each unit's renewal from these tubes ends with
abbrev pub carried_from : PlanOf → List Tube → List (List Interval)
carried_from plan tubes = map (λ u. at (renewal_of plan u (read_by plan u tubes)).states plan.ticks)
    (range_with_len 0 (length (units_of plan.parts)))

-- the states of the window's run at the tick after it
abbrev pub states_after : PlanOf → List (List Interval)
states_after plan = map (run_states (on_bands (plant_of plan.parts)) (plant_of plan.parts) (carried_into plan)
    (window_of plan).feeds plan.ticks) (range_with_len 0 (length (units_of plan.parts)))
