-- A sweep in which nothing narrows ends quiet, and a stream that was renewed from the last versions is settled.
use Rattle.std.proofs.Common.{◌≡◌, ℕ, zero, suc, ◌-◌, ◌<◌, ◌≤◌, List, [], ◌∷◌, length, map, Contains, refl, sym, ap, subst}
use Rattle.std.proofs.Common.{◌∙◌, inl, inr, true, false, arith}
use Rattle.std.proofs.lemmas.Bool.{cases_Bool}
use Rattle.quant.proofs.Calls.{same_cons}
use Rattle.flowsheet.specs.Plant.{Origin, feed, port, unit_at, origin_of}
use Rattle.relaxation.specs.Window.{Window}
use Rattle.relaxation.specs.Core.{Versions, Step, versions_of, IsLegal, IsLegalFrom, AreThere, is_idle, after_step, AreLegal}
use Rattle.relaxation.specs.Core.{narrowing, last_numbers, last_step, IsSettled, IsQuiet}
use Rattle.relaxation.specs.Sweep.{AreNewest, ReadsNewest, IsSweep}
use Rattle.relaxation.proofs.Sequences.{after-idle, narrowing-idle, narrowing-more}
use Rattle.relaxation.proofs.LastSteps.{idle-settled}

-- the step of a stream among those that are there
step-for : (steps : List Step) (s : ℕ) → Contains (map (λ (step : Step). step.stream) steps) s →
    (step : Step) × Contains steps step × (step.stream ≡ s)
step-for [] s c = absurd (omega (arith, c.1))
step-for (step ∷ steps) s (zero, l, e) = (step, (zero, omega arith, refl), e)
step-for (step ∷ steps) s (suc j, l, e) =
    let found = step-for steps s (j, omega arith, e) in
    (found.0, (suc found.1.0, (let m = found.1.1 in omega arith), found.1.2), found.2)

-- versions that are there, and no older than the newest, are the last
newest-last : (state : Versions) (streams numbers : List ℕ) → AreThere state streams numbers →
    AreNewest state streams numbers → numbers ≡ last_numbers state streams
newest-last state [] [] there newest = refl
newest-last state [] (k ∷ numbers) there newest = absurd there
newest-last state (s ∷ streams) [] there newest = absurd there
newest-last state (s ∷ streams) (k ∷ numbers) there newest =
    let last : k ≡ length (versions_of state s) - 1 = (let m = there.0 in let n = newest.0 in omega arith) in
    same_cons _ _ _ _ last (newest-last state streams numbers there.1 newest.1)

module _ (window : Window) (state : Versions) where
  -- where nothing narrows, each step is legal and idle where the steps begin
  idle-in : (steps : List Step) (step : Step) → AreLegal window state steps → narrowing window state steps ≡ [] →
      Contains steps step → IsLegal window state step × (is_idle window state step ≡ true)
  idle-in [] step legal none c = absurd (omega (arith, c.1))
  idle-in (first ∷ steps) step legal none (zero, l, e) = elim (cases_Bool (is_idle window state first)) [
    | inl idle ↦ subst (λ x. IsLegal window state x × (is_idle window state x ≡ true)) e (legal.0, idle)
    | inr more ↦ (let clash = sym (narrowing-more window state first steps more) ∙ none in cc)
  ]
  idle-in (first ∷ steps) step legal none (suc j, l, e) = elim (cases_Bool (is_idle window state first)) [
    | inl idle ↦ idle-in steps step (subst (λ x. AreLegal window x steps) (after-idle window state first idle) legal.1)
        (sym (narrowing-idle window state first steps idle) ∙ none) (j, omega arith, e)
    | inr more ↦ (let clash = sym (narrowing-more window state first steps more) ∙ none in cc)
  ]

  -- a step from the newest versions that narrows nothing settles its stream
  newest-settled : (step : Step) (origin : Origin) → origin_of window.plant step.stream ≡ origin →
      IsLegalFrom window state step.inputs origin → ReadsNewest window state step.inputs origin →
      is_idle window state step ≡ true → IsSettled window state step.stream (origin_of window.plant step.stream)
  newest-settled step (feed f) o legal newest idle = absurd legal
  newest-settled step (port u p) o legal newest idle =
      idle-settled window state step.stream u p o (subst (λ numbers. is_idle window state (record { stream = step.stream; inputs = numbers }) ≡ true)
      (newest-last state (unit_at window.plant u).reads step.inputs legal newest) idle)

  pub idle-quiet : (steps : List Step) → IsSweep window state steps → narrowing window state steps ≡ [] → IsQuiet window state
  idle-quiet steps sweep none s l = elim (sweep.covers s l) [
    | inl c ↦
        (let found = step-for steps s c in
        let idle = idle-in steps found.0 sweep.legal none found.1 in
        subst (λ r. IsSettled window state r (origin_of window.plant r)) found.2
        (newest-settled found.0 (origin_of window.plant found.0.stream) refl idle.0.inputs (sweep.newest found.0 found.1) idle.1))
    | inr settled ↦ settled
  ]
