-- What a unit opens with, and what it is made of.
use Rattle.std.proofs.Common.{◌≡◌, ℕ, suc, List, [], ◌∷◌, map, Ok, zero, ◌+◌, ◌++◌, replicate}
use Rattle.std.specs.List.{range_with_len}
use Rattle.quant.specs.Interval.{AllInside, Interval, IsInside, IsBand, AllBands}
use Rattle.quant.specs.declared.limits.Limits.{Limits}
use Rattle.quant.specs.Limits.{AreLimits}
use Rattle.parts.specs.declared.units.KindPart.{KindPart}
use Rattle.parts.specs.declared.units.KindPart.TheVariants as part
use Rattle.parts.specs.InRange.{AreContents, IsKindPart}
use Rattle.plant_checks.specs.Openings.{Opening, openings_of}
use Rattle.plant_checks.specs.Checks.{each, opening_refused}
use Rattle.plant_checks.proofs.Passed.{passes-both, passes-inside}
use Rattle.plant_units.specs.Units.{made_unit, opening_of, state_limits_of, IsUnitSound}

-- each opening band is inside its limits
inside-each : (u i : ℕ) (openings : List Opening) → each (λ i opening. opening_refused u opening) i openings ≡ Ok tt →
    AllInside (map (λ opening. opening.band) openings) (map (λ opening. opening.limits) openings)
inside-each u i [] e = tt
inside-each u i (opening ∷ openings) e =
    let a = passes-both (opening_refused u opening) _ e in
    (passes-inside opening.band opening.limits _ a.0, inside-each u (suc i) openings a.1)

-- the stages of a column open alike
stages-inside : (n a : ℕ) (x limit : Interval) (As Bs : List Interval) → IsInside x limit → AllInside As Bs →
    AllInside (replicate n x ++ As) (map (λ i. limit) (range_with_len a n) ++ Bs)
stages-inside zero a x limit As Bs h k = k
stages-inside (suc n) a x limit As Bs h k = (h, stages-inside n (a + 1) x limit As Bs h k)

stages-bands : (n : ℕ) (x : Interval) (As : List Interval) → IsBand x → AllBands As → AllBands (replicate n x ++ As)
stages-bands zero x As h k = k
stages-bands (suc n) x As h k = (h, stages-bands n x As h k)

-- a unit starts inside its limits
pub made-starts : (u : ℕ) (name : List ℕ) (limits : Limits) (inputs outputs : List ℕ) (kind : KindPart) →
    each (λ i opening. opening_refused u opening) 0 (openings_of limits kind) ≡ Ok tt →
    AllInside (opening_of (made_unit name limits inputs outputs kind))
    (state_limits_of (made_unit name limits inputs outputs kind))
unfolding made_unit openings_of
made-starts u name limits inputs outputs (part.Tank input valve k volume flow conc temp) e =
    inside-each u 0 (openings_of limits (part.Tank input valve k volume flow conc temp)) e
made-starts u name limits inputs outputs (part.Reactor input valve jacket k rate heat ua volume flow conc temp) e =
    inside-each u 0 (openings_of limits (part.Reactor input valve jacket k rate heat ua volume flow conc temp)) e
made-starts u name limits inputs outputs
    (part.Column liquid vapour stages holdup slope x liquid_flow liquid_temp vapour_flow vapour_temp) e =
    let h = inside-each u 0 (openings_of limits
    (part.Column liquid vapour stages holdup slope x liquid_flow liquid_temp vapour_flow vapour_temp)) e in
    stages-inside stages 0 x limits.conc _ _ h.0 h.1
made-starts u name limits inputs outputs (part.Controller set measured kp ki bias integral_limits integral out) e =
    inside-each u 0 (openings_of limits (part.Controller set measured kp ki bias integral_limits integral out)) e
made-starts u name limits inputs outputs (part.Mixer input) e = tt
made-starts u name limits inputs outputs (part.Splitter input share) e = tt

-- with bands
contents-bands : {volume flow conc temp : Interval} → AreContents volume flow conc temp →
    AllBands (volume ∷ flow ∷ conc ∷ temp ∷ [])
contents-bands h = (h.0.0, (h.1.0, (h.2.0, (h.3.0, tt))))

pub made-bands : (name : List ℕ) (limits : Limits) (inputs outputs : List ℕ) (kind : KindPart) → IsKindPart kind →
    AllBands (opening_of (made_unit name limits inputs outputs kind))
unfolding made_unit
made-bands name limits inputs outputs (part.Tank input valve k volume flow conc temp) h = contents-bands h.3
made-bands name limits inputs outputs (part.Reactor input valve jacket k rate heat ua volume flow conc temp) h =
    contents-bands h.7
made-bands name limits inputs outputs
    (part.Column liquid vapour stages holdup slope x liquid_flow liquid_temp vapour_flow vapour_temp) h =
    stages-bands stages x _ h.6.0.0 (h.6.1.0, (h.6.2.0, (h.6.3.0, (h.6.4.0, tt))))
made-bands name limits inputs outputs (part.Controller set measured kp ki bias integral_limits integral out) h =
    (h.6.0, (h.7.0, tt))
made-bands name limits inputs outputs (part.Mixer input) h = tt
made-bands name limits inputs outputs (part.Splitter input share) h = tt

-- its parameters are in range
pub made-sound : (name : List ℕ) (limits : Limits) (inputs outputs : List ℕ) (kind : KindPart) → IsKindPart kind →
    AreLimits limits →
    IsUnitSound (made_unit name limits inputs outputs kind)
unfolding made_unit
made-sound name limits inputs outputs (part.Tank input valve k volume flow conc temp) h l =
    record { k = h.2; limits = l }
made-sound name limits inputs outputs (part.Reactor input valve jacket k rate heat ua volume flow conc temp) h l =
    record { k = h.3; heat = h.5; ua = h.6; limits = l }
made-sound name limits inputs outputs
    (part.Column liquid vapour stages holdup slope x liquid_flow liquid_temp vapour_flow vapour_temp) h l =
    record { some = h.2; few = h.3; holdup = h.4; slope = h.5; limits = l }
made-sound name limits inputs outputs (part.Controller set measured kp ki bias integral_limits integral out) h l =
    record { kp = h.2; ki = h.3; bias = h.4; integral = h.5; limits = l }
made-sound name limits inputs outputs (part.Mixer input) h l = record { some = h.0; few = h.1; limits = l }
made-sound name limits inputs outputs (part.Splitter input share) h l = record { share = h.1; limits = l }
