-- The equations of a PI controller, and what it may be given.
use Rattle.std.specs.Prelude.{List, [], ◌∷◌}
use Rattle.quant.specs.Interval.{Interval, Holds, IsBand, IsInside, wide}
use Rattle.quant.specs.Operation.{gains}
use Rattle.quant.specs.Limits.{AreLimits}
use Rattle.quant.specs.Term.{Term, state, input, number, sum, difference, gain_of, clamped}
use Rattle.controllers.specs.declared.controller.Controller.{Controller}

-- its states in order
abbrev pub integral : Term
integral = state 0

abbrev pub out : Term
out = state 1

-- its inputs in order: what is wanted, and what is measured
abbrev pub set : Term
set = input 0

abbrev pub measured : Term
measured = input 1

abbrev pub error : Term
error = difference set measured

-- Its states at the next tick: the integral adds its part of the error, and the output is the bias, the proportional
-- part of the error and the integral of this tick.
abbrev pub next_terms : Controller → List Term
next_terms controller =
    clamped controller.integral_limits (sum integral (gain_of controller.ki error))
    ∷ clamped controller.limits.signal (sum (sum (number controller.bias) (gain_of controller.kp error)) integral)
    ∷ []

-- its one output
abbrev pub view_terms : List Term
view_terms = out ∷ []

abbrev pub state_limits : Controller → List Interval
state_limits controller = controller.integral_limits ∷ controller.limits.signal ∷ []

abbrev pub output_limits : Controller → List Interval
output_limits controller = controller.limits.signal ∷ []

-- where its inputs may lie
abbrev pub input_limits : List Interval
input_limits = wide ∷ wide ∷ []

-- its parameters are in range, and its limits are limits
pub record IsSound (controller : Controller) : Type 0 where
  pub kp : Holds gains controller.kp
  pub ki : Holds gains controller.ki
  pub bias : Holds wide controller.bias
  pub integral : IsBand controller.integral_limits × IsInside controller.integral_limits wide
  pub limits : AreLimits controller.limits
