-- The room for a unit's renewals.
use Rattle.std.proofs.Common.{◌≡◌, ◌∙◌, ℕ, zero, suc, ◌<◌, List, [], ◌∷◌, length, map, replicate, refl, sym, ap, arith}
use Rattle.std.specs.Prelude.{slice_index, slice_index_or}
use Rattle.std.specs.List.{AllByRecursion}
use Rattle.std.proofs.lemmas.List.{length-map, ext_get_or}
use Rattle.quant.specs.Interval.{Interval}
use Rattle.quant.proofs.Calls.{inside-length}
use Rattle.relaxation.specs.Tube.{Tube}
use Rattle.plant_streams.specs.Limits.{limits_at}
use Rattle.plant_units.specs.declared.units.Unit.{Unit}
use Rattle.plant_units.specs.Units.{gives_of, opening_of, output_limits_of, state_limits_of}
use Rattle.plant_units.proofs.AllKinds.{ports-alike}
use Rattle.plant.proofs.Lookups.{at-map}
use Rattle.renewal.specs.Plan.{PlanOf, window_of}
use Rattle.renewal.specs.Room.{planned}
use Rattle.renewal.specs.Giver.{IsGiver}
use Rattle.renewal.proofs.Givers.{output-limits-are, state-limits-are}
use Rattle.renewal.proofs.Openings.{opening-port}

-- what holds of each of a list holds at a place
pub below-at : (n : ℕ) (numbers : List ℕ) (i : ℕ) → AllByRecursion (λ s. s < n) numbers → i < length numbers →
    slice_index_or numbers i 0 < n
below-at n [] i h l = absurd (omega arith)
below-at n (s ∷ numbers) zero h l = h.0
below-at n (s ∷ numbers) (suc i) h l = below-at n numbers i h.1 (omega arith)

-- the same bands at each tick have one shape
replicate-shape : (n : ℕ) (row : List Interval) → map length (replicate n row) ≡ replicate n (length row)
replicate-shape zero row = refl
replicate-shape (suc n) row = ap (λ rest. length row ∷ rest) (replicate-shape n row)

module _ (plan : PlanOf) (u : ℕ) (x : Unit) (g : IsGiver plan u x) where
  gives-counted : length (gives_of x) ≡ length (output_limits_of x)
  gives-counted = g.sound.counted ∙ ports-alike x

  -- the tube of one output
  output-shape : (p : ℕ) → p < length (gives_of x) →
      map length ((window_of plan).opening (slice_index (gives_of x) p))
      ≡ replicate plan.ticks (length (slice_index_or (output_limits_of x) p []))
  output-shape p l =
      ap (map length) (opening-port plan u p (slice_index (gives_of x) p) g.plan_is (g.sound.gives p l))
      ∙ replicate-shape plan.ticks (limits_at plan.parts (slice_index (gives_of x) p))
      ∙ ap (λ (limits : List Interval). replicate plan.ticks (length limits)) (g.sound.limits p l)

  pub outputs-shape : map (map length) (map (window_of plan).opening (gives_of x))
      ≡ map (λ (limits : List Interval). replicate plan.ticks (length limits)) (planned plan u).output_limits
  outputs-shape =
      let opening : ℕ → Tube = (window_of plan).opening in
      let wide : List Interval → List ℕ = λ limits. replicate plan.ticks (length limits) in
      let opened : length (map (map length) (map opening (gives_of x))) ≡ length (gives_of x) =
      length-map (map opening (gives_of x)) (map length) ∙ length-map (gives_of x) opening in
      ext_get_or [] (map (map length) (map opening (gives_of x))) (map wide (output_limits_of x))
      (opened ∙ gives-counted ∙ sym (length-map (output_limits_of x) wide))
      (λ p l.
      let there : p < length (gives_of x) = omega (arith, opened) in
      let mapped : p < length (map opening (gives_of x)) = omega (arith, length-map (gives_of x) opening) in
      let limited : p < length (output_limits_of x) = omega (arith, gives-counted) in
      at-map (map length) (map opening (gives_of x)) p [] [] mapped
      ∙ ap (map length) (at-map opening (gives_of x) p 0 [] there)
      ∙ output-shape p there
      ∙ sym (at-map wide (output_limits_of x) p [] [] limited))
      ∙ ap (map wide) (sym (output-limits-are plan u x g))

  pub states-shape : (n : ℕ) →
      map length (replicate n (opening_of x)) ≡ replicate n (length (planned plan u).state_limits)
  states-shape n =
      replicate-shape n (opening_of x)
      ∙ ap (replicate n) (inside-length (opening_of x) (state_limits_of x) g.sound.starts
      ∙ ap length (sym (state-limits-are plan u x g)))
