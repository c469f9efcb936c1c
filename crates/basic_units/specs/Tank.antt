-- The equations of a tank, and what it may be given.
use Rattle.std.specs.Prelude.{pos, List, [], ◌∷◌}
use Rattle.quant.specs.Interval.{Interval, Holds, wide}
use Rattle.quant.specs.Operation.{ppm}
use Rattle.quant.specs.Limits.{AreLimits, wide_from}
use Rattle.quant.specs.Ports.{stream_limits}
use Rattle.quant.specs.Term.{Term}
use Rattle.basic_units.specs.Vessel.{volume_after, outflow, blended, warmed, states_of, vessel_limits, stream_out, level}
use Rattle.basic_units.specs.declared.tank.Tank.{Tank}

-- Its states at the next tick. The outflow leaves, and the inflow comes in and takes the place of as much of the
-- contents.
abbrev pub next_terms : Tank → List Term
next_terms tank = states_of tank.limits (volume_after tank.k) (outflow tank.k) blended warmed

-- its outputs: the stream that flows out, and the level
abbrev pub view_terms : Tank → List (List Term)
view_terms tank = stream_out ∷ (level tank.limits ∷ []) ∷ []

-- the limits of the states
abbrev pub state_limits : Tank → List Interval
state_limits tank = vessel_limits tank.limits

abbrev pub output_limits : Tank → List (List Interval)
output_limits tank = stream_limits tank.limits ∷ (tank.limits.signal ∷ []) ∷ []

-- where its inputs may lie: the inflow is not negative
abbrev pub input_limits : List Interval
input_limits = wide_from (pos 0) ∷ wide ∷ wide ∷ wide ∷ []

-- the outflow is at most the whole volume, and the limits are limits
pub record IsSound (tank : Tank) : Type 0 where
  pub k : Holds ppm tank.k
  pub limits : AreLimits tank.limits
