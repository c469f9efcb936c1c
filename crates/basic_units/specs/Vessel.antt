-- What a tank and a reactor have in common: their states and first inputs, what flows out and in, and what is shown.
use Rattle.std.specs.Prelude.{ℤ, List, [], ◌∷◌}
use Rattle.quant.specs.declared.limits.Limits.{Limits}
use Rattle.quant.specs.Interval.{Interval}
use Rattle.quant.specs.Term.{Term, state, input, number, sum, share_of, rest_of, blend_of, clamped}
use Rattle.basic_units.specs.Stream.{inflow}

-- the states in order
abbrev pub volume : Term
volume = state 0

abbrev pub flow : Term
flow = state 1

abbrev pub conc : Term
conc = state 2

abbrev pub temp : Term
temp = state 3

-- the input behind the stream that flows in
abbrev pub valve : Term
valve = input 3

-- how much of its volume flows out in a tick, in ppm: the valve's share of k
abbrev pub drained : ℤ → Term
drained k = share_of (number k) valve

-- the outflow leaves, and the inflow comes in
abbrev pub volume_after : ℤ → Term
volume_after k = sum (rest_of volume (drained k)) inflow.flow

abbrev pub outflow : ℤ → Term
outflow k = share_of volume (drained k)

-- the inflow takes the place of as much of the contents
abbrev pub blended : Term
blended = blend_of conc inflow.conc inflow.flow volume

abbrev pub warmed : Term
warmed = blend_of temp inflow.temp inflow.flow volume

-- the states at the next tick, each by its limits
abbrev pub states_of : Limits → Term → Term → Term → Term → List Term
states_of limits volume flow conc temp =
    clamped limits.volume volume ∷ clamped limits.flow flow ∷ clamped limits.conc conc ∷ clamped limits.temp temp ∷ []

abbrev pub vessel_limits : Limits → List Interval
vessel_limits limits = limits.volume ∷ limits.flow ∷ limits.conc ∷ limits.temp ∷ []

-- the first outputs: the stream that flows out, and the level
abbrev pub stream_out : List Term
stream_out = flow ∷ conc ∷ temp ∷ []

abbrev pub level : Limits → Term
level limits = clamped limits.signal volume
