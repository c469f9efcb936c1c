-- A unit's renewal from rows that are related to its inputs in the run is related to what the run says of it.
use Rattle.std.proofs.Common.{◌≡◌, ℕ, zero, suc, ◌<◌, true, List, length, refl, arith}
use Rattle.flowsheet.specs.Plant.{Plant, port, unit_at, origin_of, IsRanked}
use Rattle.flowsheet.specs.Reading.{Reader, inputs_of}
use Rattle.flowsheet.specs.Run.{run_states, run_streams}
use Rattle.flowsheet.specs.Renewal.{renewed_states, renewed}
use Rattle.flowsheet.proofs.Readings.{at-equal, IsKept, shown-kept, stepped-kept}
use Rattle.flowsheet.proofs.Stages.{run-shown}

module _ {A B : Type 0} {read : Reader A} {other : Reader B} {R : List A → List B → Type 0} (plant : Plant)
    (carried : ℕ → List A) (feeds : ℕ → ℕ → List A) (u : ℕ) (held : List B) (rows : ℕ → List B) where
  -- its states
  pub states-renewed : IsKept read other R → R (carried u) held → (t : ℕ) →
      ((q : ℕ) → q < t → R (inputs_of (unit_at plant u) (run_streams read plant carried feeds q)) (rows q)) →
      R (run_states read plant carried feeds t u) (renewed_states other (unit_at plant u) held rows t)
  states-renewed kept h zero g = h
  states-renewed kept h (suc t) g = stepped-kept kept (unit_at plant u) _ _ _ _
      (states-renewed kept h t (λ q k. g q (omega arith))) (g t (omega arith))

  -- and its outputs
  pub stream-renewed : IsKept read other R → IsRanked plant → R (carried u) held → (t s p : ℕ) → s < length plant.streams → origin_of plant s ≡ port u p →
      ((q : ℕ) → q < t → R (inputs_of (unit_at plant u) (run_streams read plant carried feeds q)) (rows q)) →
      ((unit_at plant u).instant ≡ true → R (inputs_of (unit_at plant u) (run_streams read plant carried feeds t)) (rows t)) →
      R (run_streams read plant carried feeds t s) (renewed other (unit_at plant u) p held rows t)
  stream-renewed kept ranked h t s p l e g k = at-equal R (run-shown read plant carried feeds ranked t s u p l e) refl
      (shown-kept kept (unit_at plant u) p _ _ _ _ (states-renewed kept h t g) k)
