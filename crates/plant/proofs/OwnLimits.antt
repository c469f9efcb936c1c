-- The limits of a plant and of its units are limits.
use Rattle.std.proofs.Common.{ℤ, ◌≤ℤ◌, ◌≡◌, pos, Ok, unwrap_or, Option, Some, None, ℕ, zero, suc, List, [], ◌∷◌, map}
use Rattle.std.proofs.Common.{slice_index_or}
use Rattle.std.specs.Prelude.{IfSome}
use Rattle.std.specs.List.{AllByRecursion}
use Rattle.quant.specs.Interval.{Interval, IsBand, IsInside, wide}
use Rattle.quant.specs.Limits.{wide_from, AreLimits}
use Rattle.quant.specs.declared.limits.Limits.{Limits}
use Rattle.parts.specs.InRange.{IsWide, AreWideLimits, AreOwnLimits, IsUnitPart, AreInRange}
use Rattle.parts.specs.declared.units.UnitPart.{UnitPart}
use Rattle.parts.specs.Parts.{FileParts}
use Rattle.plant_streams.specs.Limits.{limits_in, source_limits}
use Rattle.plant_streams.specs.declared.streams.StreamSource.{StreamSource}
use Rattle.plant_streams.specs.declared.streams.StreamSource.TheVariants as source
use Rattle.plant_checks.specs.Checks.{refuse_if, limits_check, own_begins_below, own_limits_check, each}
use Rattle.plant_checks.proofs.Passed.{passes-both, passes-begins, ArePassed}
use Rattle.plant_checks.specs.declared.fault.PlantFault.{PlantFault}

-- a wide band from a number on
wide-from : (first : ℤ) (band : Interval) → IsWide band → first ≤ℤ band.lo →
    IsBand band × IsInside band (wide_from first)
wide-from first band w l = (w.0, record { above = l; below = (w.1).below })

-- the plant's limits
pub plant-limits : (limits : Limits) → AreWideLimits limits → limits_check limits ≡ Ok tt → AreLimits limits
unfolding limits_check
plant-limits limits w e =
    let a = passes-both (refuse_if _ _) _ e in
    record {
      flow = wide-from (pos 0) limits.flow w.flow (passes-begins (pos 0) limits.flow _ a.0);
      conc = w.conc;
      temp = w.temp;
      volume = wide-from (pos 1) limits.volume w.volume (passes-begins (pos 1) limits.volume _ a.1);
      signal = w.signal;
    }

-- a limit of its own, or the plant's
own-from : (first : ℤ) (own : Option Interval) (band : Interval) (refusal : PlantFault) →
    IsBand band × IsInside band (wide_from first) → IfSome own IsWide →
    refuse_if (own_begins_below first own) refusal ≡ Ok tt →
    IsBand (unwrap_or own band) × IsInside (unwrap_or own band) (wide_from first)
own-from first None band refusal h w e = h
own-from first (Some own) band refusal h w e = wide-from first own w (passes-begins first own refusal e)

own-wide : (own : Option Interval) (band : Interval) → IsBand band × IsInside band wide → IfSome own IsWide →
    IsBand (unwrap_or own band) × IsInside (unwrap_or own band) wide
own-wide None band h w = h
own-wide (Some own) band h w = w

-- a unit's limits
pub own-limits : (limits : Limits) (u : ℕ) (unit : UnitPart) → AreLimits limits → AreOwnLimits unit.limits →
    own_limits_check u unit ≡ Ok tt → AreLimits (limits_in limits unit.limits)
unfolding own_limits_check limits_in
own-limits limits u unit h w e =
    let a = passes-both (refuse_if _ _) _ e in
    record {
      flow = own-from (pos 0) unit.limits.flow limits.flow _ h.flow w.flow a.0;
      conc = own-wide unit.limits.conc limits.conc h.conc w.conc;
      temp = own-wide unit.limits.temp limits.temp h.temp w.temp;
      volume = own-from (pos 1) unit.limits.volume limits.volume _ h.volume w.volume a.1;
      signal = own-wide unit.limits.signal limits.signal h.signal w.signal;
    }

-- those of each unit from number i on
each-limits : (limits : Limits) (i : ℕ) (units : List UnitPart) (u : ℕ) → AreLimits limits →
    AllByRecursion IsUnitPart units →
    each own_limits_check i units ≡ Ok tt →
    AreLimits (slice_index_or (map (λ unit. limits_in limits unit.limits) units) u limits)
each-limits limits i [] u h w e = h
each-limits limits i (unit ∷ units) zero h w e =
    own-limits limits i unit h (w.0).limits
    (passes-both (own_limits_check i unit) (each own_limits_check (suc i) units) e).0
each-limits limits i (unit ∷ units) (suc u) h w e =
    each-limits limits (suc i) units u h w.1
    (passes-both (own_limits_check i unit) (each own_limits_check (suc i) units) e).1

-- and of each stream
pub stream-limits : (parts : FileParts) (from : StreamSource) → AreInRange parts → ArePassed parts →
    AreLimits (source_limits parts from)
stream-limits parts (source.Feed f) ranges passed = plant-limits parts.limits ranges.limits passed.limits
stream-limits parts (source.Port u p) ranges passed =
    each-limits parts.limits 0 parts.units u (plant-limits parts.limits ranges.limits passed.limits)
    (ranges.units).2 passed.own_limits
