-- How many versions there are.
use Rattle.std.proofs.Common.{◌≡◌, ℕ, suc, ◌+◌, ◌-◌, ◌<◌, ◌≤◌, List, [], ◌∷◌, length, slice_index_or, sym, ap, ◌∙◌, subst, arith, length-append, inl, inr, refl, cond, eq-eqb}
use Rattle.std.specs.List.{range_with_len, sum_by}
use Rattle.std.specs.Prelude.{◌==◌, count_by}
use Rattle.std.proofs.lemmas.Bool.{cases_eq, cases_Bool}
use Rattle.std.proofs.lemmas.List.Sums.{sum_by-cons}
use Rattle.relaxation.specs.Tube.{width}
use Rattle.relaxation.specs.Window.{Window, IsOpen}
use Rattle.relaxation.specs.Core.{Versions, Step, versions_of, last_of, IsLegal, is_idle, after_step, replay, AreLegal, appended}
use Rattle.relaxation.specs.Sweep.{AreSweeps, replay_sweeps}
use Rattle.relaxation.proofs.Sequences.{after-idle, versions-elsewhere}
use Rattle.relaxation.proofs.States.{KeepsRun, step_meet, pushed-here, step-kept, replay-kept}

-- a sum over a list is at most one over places, if each element's part is
sum_by_places : {X : Type 0} (f : X → ℕ) (g : ℕ → ℕ) (d : X) (a : ℕ) (xs : List X) →
    ((i : ℕ) → i < length xs → f (slice_index_or xs i d) ≤ g (a + i)) → sum_by f xs ≤ sum_by g (range_with_len a (length xs))
sum_by_places f g d a [] h = omega arith
sum_by_places f g d a (x ∷ xs) h =
    let here : f x ≤ g a = subst (λ i. f x ≤ g i) (omega arith) (h 0 (omega arith)) in
    let rest : sum_by f xs ≤ sum_by g (range_with_len (a + 1) (length xs)) = sum_by_places f g d (a + 1) xs
    (λ i l. subst (λ j. f (slice_index_or xs i d) ≤ g j) (omega arith) (h (suc i) (omega arith))) in
    let whole : sum_by g (range_with_len a (length (x ∷ xs))) ≡ g a + sum_by g (range_with_len (a + 1) (length xs))
    = sum_by-cons g a (range_with_len (a + 1) (length xs)) in
    omega (arith, sum_by-cons f x xs)

module _ (window : Window) (is : IsOpen window) where
  -- the appended versions of a stream
  appended_of : (state : Versions) → KeepsRun window is state → (i : ℕ) → i < length state → length (versions_of state i) - 1 ≤ width (window.opening (0 + i))
  appended_of state kept i l =
      let c : length (versions_of state i) + width (last_of state i) ≤ 1 + width (window.opening i) =
      (kept.each i (subst (λ n. i < n) kept.counted l)).counted in
      let e : width (window.opening (0 + i)) ≡ width (window.opening i) = ap (λ j. width (window.opening j)) (omega arith) in
      omega arith

  -- there are at most as many appended versions as the opening tubes are wide in all
  pub appended-at_most : (state : Versions) → KeepsRun window is state →
      appended state ≤ sum_by (λ s. width (window.opening s)) (range_with_len 0 (length window.plant.streams))
  appended-at_most state kept = subst (λ n. appended state ≤ sum_by (λ s. width (window.opening s)) (range_with_len 0 n)) kept.counted
      (sum_by_places (λ versions. length versions - 1) (λ s. width (window.opening s)) [] 0 state (λ i l. appended_of state kept i l))

  -- a step appends at most one version
  own-count : (state : Versions) → KeepsRun window is state → (step : Step) → IsLegal window state step →
      length (versions_of (after_step window state step) step.stream) ≤ length (versions_of state step.stream) + 1
  own-count state kept step legal = elim (cases_Bool (is_idle window state step)) [
    | inl e ↦ let g : length (versions_of (after_step window state step) step.stream) ≡ length (versions_of state step.stream)
        = ap (λ x. length (versions_of x step.stream)) (after-idle window state step e) in omega arith
    | inr e ↦ let g : length (versions_of (after_step window state step) step.stream) ≡ length (versions_of state step.stream) + 1
        = ap length (pushed-here window is state kept step legal e) ∙ length-append (versions_of state step.stream) (step_meet window is state kept step legal ∷ []) in omega arith
  ]

  -- and none of another stream
  step-count : (state : Versions) → KeepsRun window is state → (step : Step) → IsLegal window state step → (s : ℕ) →
      length (versions_of (after_step window state step) s) ≤ length (versions_of state s) + cond (step.stream == s) 1 0
  step-count state kept step legal s = elim (cases_eq s step.stream) [
    | inl g ↦ subst (λ i. length (versions_of (after_step window state step) i) ≤ length (versions_of state i) + cond (step.stream == i) 1 0) (sym g)
        (rw (eq-eqb step.stream step.stream refl) (own-count state kept step legal))
    | inr n ↦ let e : length (versions_of (after_step window state step) s) ≡ length (versions_of state s) = ap length (versions-elsewhere window state step s n) in
        omega arith
  ]

  -- so steps append at most as many as there are of the stream
  pub steps-count : (state : Versions) (steps : List Step) → KeepsRun window is state → AreLegal window state steps → (s : ℕ) →
      length (versions_of (replay window state steps) s) ≤ length (versions_of state s) + count_by (λ (step : Step). step.stream == s) steps
  steps-count state [] kept legal s = omega arith
  steps-count state (step ∷ steps) kept legal s =
      let here : length (versions_of (after_step window state step) s) ≤ length (versions_of state s) + cond (step.stream == s) 1 0
      = step-count state kept step legal.0 s in
      let rest : length (versions_of (replay window (after_step window state step) steps) s)
      ≤ length (versions_of (after_step window state step) s) + count_by (λ (x : Step). x.stream == s) steps
      = steps-count (after_step window state step) steps (step-kept window is state kept step legal.0) legal.1 s in
      let whole : count_by (λ (x : Step). x.stream == s) (step ∷ steps) ≡ cond (step.stream == s) 1 0 + count_by (λ (x : Step). x.stream == s) steps
      = sum_by-cons (λ (x : Step). cond (x.stream == s) 1 0) step steps in
      omega arith

  -- and sweeps at most one each
  pub sweeps-count : (state : Versions) (sweeps : List (List Step)) → KeepsRun window is state → AreSweeps window state sweeps → (s : ℕ) →
      length (versions_of (replay_sweeps window state sweeps) s) ≤ length (versions_of state s) + length sweeps
  sweeps-count state [] kept are s = omega arith
  sweeps-count state (steps ∷ sweeps) kept are s =
      let here : length (versions_of (replay window state steps) s) ≤ length (versions_of state s) + count_by (λ (step : Step). step.stream == s) steps
      = steps-count state steps kept are.0.legal s in
      let once : count_by (λ (step : Step). step.stream == s) steps ≤ 1 = are.0.once s in
      let rest : length (versions_of (replay_sweeps window (replay window state steps) sweeps) s) ≤ length (versions_of (replay window state steps) s) + length sweeps
      = sweeps-count (replay window state steps) sweeps (replay-kept window is state steps kept are.0.legal) are.1 s in
      omega arith
