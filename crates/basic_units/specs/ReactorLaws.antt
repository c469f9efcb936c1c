-- A reactor keeps its limits.
use Rattle.std.specs.Prelude.{List, [], ◌∷◌}
use Rattle.quant.specs.Interval.{Interval, AllBands, AllInside}
use Rattle.quant.specs.Rounding.{Floor}
use Rattle.quant.specs.Ports.{outputs}
use Rattle.quant.specs.Term.{interval, intervals, clamped}
use Rattle.quant.proofs.Calls.{clamped-inside}
use Rattle.basic_units.specs.declared.reactor.Reactor.{Reactor}
use Rattle.basic_units.specs.Reactor.{IsSound, reacted, jacketed, next_terms, view_terms, state_limits, output_limits}
use Rattle.basic_units.specs.Vessel.{temp, volume_after, outflow, level}
use Rattle.basic_units.specs.Limited.{states-limited, shown-limited}

-- each state is clamped by its limits
pub next-limited : (reactor : Reactor) (states inputs : List Interval) → IsSound reactor →
    AllInside (intervals Floor (next_terms reactor) states inputs) (state_limits reactor)
next-limited reactor states inputs sound = states-limited reactor.limits states inputs (volume_after reactor.k)
    (outflow reactor.k) (reacted reactor) (jacketed reactor) sound.limits

-- the stream that flows out is states, and the signals are clamped
pub view-limited : (reactor : Reactor) (states : List Interval) → IsSound reactor → AllBands states →
    AllInside states (state_limits reactor) →
    AllInside (intervals Floor (outputs (view_terms reactor)) states []) (outputs (output_limits reactor))
view-limited reactor states sound bands inside =
    shown-limited reactor.limits states (interval Floor states [] (level reactor.limits) ∷ interval Floor states []
    (clamped reactor.limits.signal temp) ∷ [])
    (reactor.limits.signal ∷ reactor.limits.signal ∷ []) inside (
      clamped-inside reactor.limits.signal _ sound.limits.signal.0,
      (clamped-inside reactor.limits.signal _ sound.limits.signal.0, tt),
    )
