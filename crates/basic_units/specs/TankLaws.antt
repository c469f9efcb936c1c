-- A tank keeps its limits.
use Rattle.std.specs.Prelude.{List, [], ◌∷◌}
use Rattle.quant.specs.Interval.{Interval, AllBands, AllInside}
use Rattle.quant.specs.Rounding.{Floor}
use Rattle.quant.specs.Ports.{outputs}
use Rattle.quant.specs.Term.{interval, intervals}
use Rattle.quant.proofs.Calls.{clamped-inside}
use Rattle.basic_units.specs.declared.tank.Tank.{Tank}
use Rattle.basic_units.specs.Tank.{IsSound, next_terms, view_terms, state_limits, output_limits}
use Rattle.basic_units.specs.Vessel.{volume_after, outflow, blended, warmed, level}
use Rattle.basic_units.specs.Limited.{states-limited, shown-limited}

-- each state is clamped by its limits
pub next-limited : (tank : Tank) (states inputs : List Interval) → IsSound tank →
    AllInside (intervals Floor (next_terms tank) states inputs) (state_limits tank)
next-limited tank states inputs sound = states-limited tank.limits states inputs (volume_after tank.k)
    (outflow tank.k) blended warmed sound.limits

-- the stream that flows out is states, and the level is clamped
pub view-limited : (tank : Tank) (states : List Interval) → IsSound tank → AllBands states →
    AllInside states (state_limits tank) →
    AllInside (intervals Floor (outputs (view_terms tank)) states []) (outputs (output_limits tank))
view-limited tank states sound bands inside =
    shown-limited tank.limits states (interval Floor states [] (level tank.limits) ∷ [])
    (tank.limits.signal ∷ []) inside (clamped-inside tank.limits.signal _ sound.limits.signal.0, tt)
