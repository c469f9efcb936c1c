-- What is clamped by the limits of a unit lies in them: lemmas for the laws of units.
use Rattle.std.specs.Prelude.{List, [], ◌∷◌}
use Rattle.quant.specs.declared.limits.Limits.{Limits}
use Rattle.quant.specs.Interval.{Interval, AllInside}
use Rattle.quant.specs.Limits.{AreLimits}
use Rattle.quant.specs.Rounding.{Floor}
use Rattle.quant.specs.Term.{Term, interval, intervals, clamped}
use Rattle.quant.proofs.Calls.{clamped-inside}
use Rattle.quant.proofs.Terms.{place-inside}
use Rattle.basic_units.specs.Vessel.{flow, conc, temp, states_of, vessel_limits}

-- the states of a vessel, each clamped by its limits
pub states-limited : (limits : Limits) (states inputs : List Interval) (v f c t : Term) → AreLimits limits →
    AllInside (intervals Floor (states_of limits v f c t) states inputs) (vessel_limits limits)
states-limited limits states inputs v f c t are = (
  clamped-inside limits.volume _ are.volume.0,
  (
    clamped-inside limits.flow _ are.flow.0,
    (clamped-inside limits.conc _ are.conc.0, (clamped-inside limits.temp _ are.temp.0, tt)),
  ),
)

-- a stream whose channels are clamped, and whatever stands behind it
pub stream-limited : (limits : Limits) (states inputs : List Interval) (f c t : Term)
    (rest rest_limits : List Interval) → AreLimits limits →
    AllInside rest rest_limits →
    AllInside (interval Floor states inputs (clamped limits.flow f) ∷ interval Floor states inputs
    (clamped limits.conc c)
    ∷ interval Floor states inputs (clamped limits.temp t) ∷ rest)
    (limits.flow ∷ limits.conc ∷ limits.temp ∷ rest_limits)
stream-limited limits states inputs f c t rest rest_limits are h = (
  clamped-inside limits.flow _ are.flow.0,
  (clamped-inside limits.conc _ are.conc.0, (clamped-inside limits.temp _ are.temp.0, h)),
)

-- the stream that a vessel shows is three of its states, whatever stands behind it
pub shown-limited : (limits : Limits) (states rest rest_limits : List Interval) →
    AllInside states (vessel_limits limits) → AllInside rest rest_limits →
    AllInside (interval Floor states [] flow ∷ interval Floor states [] conc ∷ interval Floor states [] temp ∷ rest)
    (limits.flow ∷ limits.conc ∷ limits.temp ∷ rest_limits)
shown-limited limits states rest rest_limits inside h = (
  place-inside states (vessel_limits limits) 1 inside,
  (place-inside states (vessel_limits limits) 2 inside, (place-inside states (vessel_limits limits) 3 inside, h)),
)
