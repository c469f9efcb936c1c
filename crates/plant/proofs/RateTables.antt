-- Parts that pass the checks can be made: the rates of their reactors are tables, and their mixers have few inputs.
use Rattle.std.proofs.Common.{◌≡◌, ℕ, zero, suc, ◌+◌, ◌<◌, ℤ, pos, true, List, [], ◌∷◌, length, get_or}
use Rattle.std.proofs.Common.{slice_index_or, All, Ok, refl, subst, arith}
use Rattle.std.specs.Prelude.{◌&&◌, int_le, int_lt}
use Rattle.std.specs.List.{AllByRecursion}
use Rattle.std.proofs.lemmas.Int.{ints}
use Rattle.quant.specs.Table.{IsTable, HasRate, IsStep, AreSteps}
use Rattle.parts.specs.Parts.{FileParts}
use Rattle.parts.specs.InRange.{IsRatePoint, AreRatePoints, IsKindPart, IsUnitPart, AreInRange}
use Rattle.parts.specs.declared.units.KindPart.{KindPart}
use Rattle.parts.specs.declared.units.KindPart.TheVariants as part
use Rattle.parts.specs.declared.units.UnitPart.{UnitPart}
use Rattle.plant_checks.specs.Checks.{each, rises_well, rate_refused, rate_kind_check, rate_check, checked}
use Rattle.plant_checks.proofs.Passed.{passes-both, passes-test, are-passed}
use Rattle.plant_units.specs.Units.{IsMakeable}

-- a point that rises well is a step
is_step : (from to : ℤ × ℤ) → (int_lt from.0 to.0 && int_le from.1 to.1) ≡ true → IsStep from to
is_step from to e = record { hotter = grind (arith, ints); no_less = grind (arith, ints) }

steps_from : (u : ℕ) (points : List (ℤ × ℤ)) (i : ℕ) (p : ℤ × ℤ) (rest : List (ℤ × ℤ)) →
    ((k : ℕ) → slice_index_or points (i + k) (pos 0, pos 0) ≡ slice_index_or (p ∷ rest) k (pos 0, pos 0)) →
    each (rate_refused u points) (suc i) rest ≡ Ok tt → AreSteps (p ∷ rest)
steps_from u points i p [] at e = tt
steps_from u points i p (q ∷ rest) at e =
    let same : slice_index_or points i (pos 0, pos 0) ≡ p = let n : i ≡ i + 0 = omega arith in rw n (at 0) in
    let well : rises_well points (suc i) q ≡ true =
    passes-test _ _ (passes-both (rate_refused u points (suc i) q) _ e).0 in (
      is_step p q (subst (λ (before : ℤ × ℤ). (int_lt before.0 q.0 && int_le before.1 q.1) ≡ true) same well),
      steps_from u points (suc i) q rest (λ k. let n : suc i + k ≡ i + suc k = omega arith in rw n (at (suc k)))
          (passes-both (rate_refused u points (suc i) q) _ e).1,
    )

steps_of : (u : ℕ) (points : List (ℤ × ℤ)) → each (rate_refused u points) 0 points ≡ Ok tt → AreSteps points
steps_of u [] e = tt
steps_of u (p ∷ rest) e =
    steps_from u (p ∷ rest) 0 p rest (λ k. let n : 0 + k ≡ k =
    omega arith in rw n refl) (passes-both (rate_refused u (p ∷ rest) 0 p) _ e).1

points_at : (points : List (ℤ × ℤ)) (k : ℕ) (d : ℤ × ℤ) → AllByRecursion IsRatePoint points → k < length points →
    HasRate (get_or points k d)
points_at [] k d h l = absurd (omega arith)
points_at (p ∷ rest) zero d h l = (h.0).1
points_at (p ∷ rest) (suc k) d h l = points_at rest k d h.1 (omega arith)

pub is_table : (u : ℕ) (points : List (ℤ × ℤ)) → AreRatePoints points →
    each (rate_refused u points) 0 points ≡ Ok tt → IsTable points
is_table u points h e = record {
  some = h.0;
  few = h.1;
  each = λ k d l. points_at points k d h.2 l;
  steps =
      steps_of u points e;
}

kind_makeable : (u : ℕ) (kind : KindPart) → IsKindPart kind → rate_kind_check u kind ≡ Ok tt → IsMakeable kind
unfolding rate_kind_check
kind_makeable u (part.Tank input valve k volume flow conc temp) h e = tt
kind_makeable u (part.Reactor input valve jacket k rate heat ua volume flow conc temp) h e = is_table u rate h.4 e
kind_makeable u (part.Column liquid vapour stages holdup slope x liquid_flow liquid_temp vapour_flow vapour_temp) h
    e = tt
kind_makeable u (part.Controller set measured kp ki bias integral_limits integral out) h e = tt
kind_makeable u (part.Mixer input) h e = h.1
kind_makeable u (part.Splitter input share) h e = tt

makeable_at : (u : ℕ) (units : List UnitPart) (k : ℕ) (d : UnitPart) → AllByRecursion IsUnitPart units →
    each rate_check u units ≡ Ok tt →
    k < length units → IsMakeable (get_or units k d).kind
unfolding rate_check
makeable_at u [] k d h e l = absurd (omega arith)
makeable_at u (unit ∷ rest) zero d h e l = kind_makeable u unit.kind (h.0).kind (passes-both (rate_check u unit) _ e).0
makeable_at u (unit ∷ rest) (suc k) d h e l =
    makeable_at (suc u) rest k d h.1 (passes-both (rate_check u unit) _ e).1 (omega arith)

pub all_makeable : (parts : FileParts) → AreInRange parts → checked parts ≡ Ok tt →
    All (λ unit. IsMakeable unit.kind) parts.units
all_makeable parts ranges e = λ k d l. makeable_at 0 parts.units k d (ranges.units).2 (are-passed parts e).rates l
