-- The equations of a reactor, and what it may be given.
use Rattle.std.specs.Prelude.{pos, List, [], ◌∷◌}
use Rattle.quant.specs.Interval.{Interval, Holds, wide}
use Rattle.quant.specs.Operation.{million, ppm, gains}
use Rattle.quant.specs.Limits.{AreLimits, wide_from}
use Rattle.quant.specs.Ports.{stream_limits}
use Rattle.quant.specs.Term.{Term, input, number, sum, share_of, rest_of, gain_of, blend_of, lookup_of, clamped}
use Rattle.basic_units.specs.Vessel.{temp, volume_after, outflow, blended, warmed, states_of, vessel_limits, stream_out, level}
use Rattle.basic_units.specs.declared.reactor.Reactor.{Reactor}

-- its states and first four inputs are those of a tank; its last input is the temperature of the jacket
abbrev pub jacket : Term
jacket = input 4

-- how much of the conc reacts, in ppm, by the temperature at the tick
abbrev pub reacting : Reactor → Term
reacting reactor = lookup_of reactor.rate temp

-- the temperature after the inflow and the reaction
abbrev pub heated : Reactor → Term
heated reactor = sum warmed (gain_of reactor.heat (share_of blended (reacting reactor)))

-- what is left of the conc, and the temperature after the jacket
abbrev pub reacted : Reactor → Term
reacted reactor = rest_of blended (reacting reactor)

abbrev pub jacketed : Reactor → Term
jacketed reactor = blend_of (heated reactor) jacket (number reactor.ua) (number million)

-- Its states at the next tick. The outflow leaves, and the inflow takes the place of as much of the contents; of these
-- the rate reacts and heats; of the heated contents ua takes the temperature of the jacket.
abbrev pub next_terms : Reactor → List Term
next_terms reactor = states_of reactor.limits (volume_after reactor.k) (outflow reactor.k) (reacted reactor)
    (jacketed reactor)

-- its outputs: the stream that flows out, the level and the temperature
abbrev pub view_terms : Reactor → List (List Term)
view_terms reactor = stream_out ∷ (level reactor.limits ∷ []) ∷ (clamped reactor.limits.signal temp ∷ []) ∷ []

abbrev pub state_limits : Reactor → List Interval
state_limits reactor = vessel_limits reactor.limits

abbrev pub output_limits : Reactor → List (List Interval)
output_limits reactor = stream_limits reactor.limits ∷ (reactor.limits.signal ∷ []) ∷ (reactor.limits.signal ∷ []) ∷ []

-- where its inputs may lie: the inflow is not negative
abbrev pub input_limits : List Interval
input_limits = wide_from (pos 0) ∷ wide ∷ wide ∷ wide ∷ wide ∷ []

-- its parameters are in range, and its limits are limits
pub record IsSound (reactor : Reactor) : Type 0 where
  pub k : Holds ppm reactor.k
  pub heat : Holds gains reactor.heat
  pub ua : Holds ppm reactor.ua
  pub limits : AreLimits reactor.limits
