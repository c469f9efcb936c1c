-- The states of a unit at the first tick: their keys, their bands and their limits.
use Rattle.std.specs.Prelude.{ℕ, List, [], ◌∷◌, codes}
use Rattle.quant.specs.Interval.{Interval}
use Rattle.quant.specs.declared.limits.Limits.{Limits}
use Rattle.parts.specs.declared.units.KindPart.{KindPart}
use Rattle.parts.specs.declared.units.KindPart.TheVariants as part

-- a band under its key in a plant file, and its limits
pub record Keyed (Band : Type 0) : Type 0 where
  pub key : List ℕ
  pub band : Band
  pub limits : Interval

abbrev pub keyed : {Band : Type 0} → List ℕ → Band → Interval → Keyed Band
keyed key band limits = record { key = key; band = band; limits = limits }

-- a state of a unit at the first tick
abbrev pub Opening : Type 0
Opening = Keyed Interval

-- the states of a tank or a reactor, and of a controller
abbrev pub contents_of : Limits → Interval → Interval → Interval → Interval → List Opening
contents_of limits volume flow conc temp =
    keyed (codes "volume") volume limits.volume ∷ keyed (codes "flow") flow limits.flow
    ∷ keyed (codes "conc") conc limits.conc ∷ keyed (codes "temp") temp limits.temp ∷ []

abbrev pub control_of : Limits → Interval → Interval → Interval → List Opening
control_of limits integral_limits integral out =
    keyed (codes "integral") integral integral_limits ∷ keyed (codes "out") out limits.signal ∷ []

-- the states of each kind of unit, as the file gives them; the stages of a column open alike
unfoldable pub openings_of : Limits → KindPart → List Opening
openings_of limits (part.Tank input valve k volume flow conc temp) = contents_of limits volume flow conc temp
openings_of limits (part.Reactor input valve jacket k rate heat ua volume flow conc temp) =
    contents_of limits volume flow conc temp
openings_of limits (part.Column liquid vapour stages holdup slope x liquid_flow liquid_temp vapour_flow vapour_temp) =
    keyed (codes "x") x limits.conc ∷ keyed (codes "liquid_flow") liquid_flow limits.flow
    ∷ keyed (codes "liquid_temp") liquid_temp limits.temp
    ∷ keyed (codes "vapour_flow") vapour_flow limits.flow ∷ keyed (codes "vapour_temp") vapour_temp limits.temp ∷ []
openings_of limits (part.Controller set measured kp ki bias integral_limits integral out) =
    control_of limits integral_limits integral out
openings_of limits (part.Mixer input) = []
openings_of limits (part.Splitter input share) = []
