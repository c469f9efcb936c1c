-- A controller keeps its limits.
use Rattle.std.specs.Prelude.{List, []}
use Rattle.quant.specs.Interval.{Interval, AllBands, AllInside}
use Rattle.quant.specs.Rounding.{Floor}
use Rattle.quant.specs.Term.{intervals}
use Rattle.quant.proofs.Calls.{clamped-inside}
use Rattle.quant.proofs.Terms.{place-inside}
use Rattle.controllers.specs.declared.controller.Controller.{Controller}
use Rattle.controllers.specs.Controller.{IsSound, next_terms, view_terms, state_limits, output_limits}

-- each state is clamped by its limits
pub next-limited : (controller : Controller) (states inputs : List Interval) → IsSound controller →
    AllInside (intervals Floor (next_terms controller) states inputs) (state_limits controller)
next-limited controller states inputs sound = (
  clamped-inside controller.integral_limits _ sound.integral.0,
  (clamped-inside controller.limits.signal _ sound.limits.signal.0, tt),
)

-- the output is a state
pub view-limited : (controller : Controller) (states : List Interval) → IsSound controller → AllBands states →
    AllInside states (state_limits controller) →
    AllInside (intervals Floor view_terms states []) (output_limits controller)
view-limited controller states sound bands inside = (place-inside states (state_limits controller) 1 inside, tt)
