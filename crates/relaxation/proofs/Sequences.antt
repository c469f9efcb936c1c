-- Lists of steps after one another, and without those that append nothing.
use Rattle.std.proofs.Common.{◌≡◌, ℕ, List, [], ◌∷◌, ◌++◌, ap, ◌∙◌, inl, inr, refl, true, false, ◌≢◌, slice_set}
use Rattle.std.proofs.lemmas.List.{get_or-set_other}
use Rattle.std.proofs.lemmas.Bool.{cases_Bool}
use Rattle.relaxation.specs.Tube.{meet}
use Rattle.relaxation.specs.Window.{Window}
use Rattle.relaxation.specs.Core.{Versions, Step, versions_of, last_of, is_idle, after_step, replay, AreLegal, step_renewal, AreNarrowing, narrowing}

module _ (window : Window) where
  -- the versions after two lists of steps
  pub replay-append : (state : Versions) (steps more : List Step) → replay window state (steps ++ more) ≡ replay window (replay window state steps) more
  replay-append state [] more = refl
  replay-append state (step ∷ steps) more = replay-append (after_step window state step) steps more

  -- they are legal where each is in its turn
  pub legal-append : (state : Versions) (steps more : List Step) → AreLegal window state steps →
      AreLegal window (replay window state steps) more → AreLegal window state (steps ++ more)
  legal-append state [] more h k = k
  legal-append state (step ∷ steps) more h k = (h.0, legal-append (after_step window state step) steps more h.1 k)

  -- and append a version each where they do in their turn
  pub narrowing-append : (state : Versions) (steps more : List Step) → AreNarrowing window state steps →
      AreNarrowing window (replay window state steps) more → AreNarrowing window state (steps ++ more)
  narrowing-append state [] more h k = k
  narrowing-append state (step ∷ steps) more h k = (h.0, narrowing-append (after_step window state step) steps more h.1 k)

  -- an idle step leaves the state as it is
  pub after-idle : (state : Versions) (step : Step) → is_idle window state step ≡ true → after_step window state step ≡ state
  after-idle state step e = rw e refl

  -- another appends a version
  pub after-narrows : (state : Versions) (step : Step) → is_idle window state step ≡ false → after_step window state step
      ≡ slice_set state step.stream (versions_of state step.stream ++ meet (last_of state step.stream) (step_renewal window state step) ∷ [])
  after-narrows state step e = rw e refl

  -- the versions of another stream are as they were
  pub versions-elsewhere : (state : Versions) (step : Step) (s : ℕ) → s ≢ step.stream →
      versions_of (after_step window state step) s ≡ versions_of state s
  versions-elsewhere state step s n = elim (cases_Bool (is_idle window state step)) [
    | inl e ↦ ap (λ x. versions_of x s) (after-idle state step e)
    | inr e ↦ ap (λ x. versions_of x s) (after-narrows state step e) ∙ get_or-set_other state step.stream s _ [] n
  ]

  -- an idle step is left out of the narrowing steps
  pub narrowing-idle : (state : Versions) (step : Step) (steps : List Step) → is_idle window state step ≡ true →
      narrowing window state (step ∷ steps) ≡ narrowing window state steps
  narrowing-idle state step steps e = rw e refl

  -- another stands first among them
  pub narrowing-more : (state : Versions) (step : Step) (steps : List Step) → is_idle window state step ≡ false →
      narrowing window state (step ∷ steps) ≡ step ∷ narrowing window (after_step window state step) steps
  narrowing-more state step steps e = rw e refl

  -- the narrowing steps give the same versions
  pub narrowing-replay : (state : Versions) (steps : List Step) → replay window state (narrowing window state steps) ≡ replay window state steps
  narrowing-replay state [] = refl
  narrowing-replay state (step ∷ steps) = elim (cases_Bool (is_idle window state step)) [
    | inl e ↦ rw (narrowing-idle state step steps e, after-idle state step e) (narrowing-replay state steps)
    | inr e ↦ rw (narrowing-more state step steps e) (narrowing-replay (after_step window state step) steps)
  ]

  -- they are legal
  pub narrowing-legal : (state : Versions) (steps : List Step) → AreLegal window state steps → AreLegal window state (narrowing window state steps)
  narrowing-legal state [] h = tt
  narrowing-legal state (step ∷ steps) h = elim (cases_Bool (is_idle window state step)) [
    | inl e ↦ rw (narrowing-idle state step steps e) (narrowing-legal state steps (rw (after-idle state step e) at h.1))
    | inr e ↦ rw (narrowing-more state step steps e) (h.0, narrowing-legal (after_step window state step) steps h.1)
  ]

  -- and append a version each
  pub narrowing-narrowing : (state : Versions) (steps : List Step) → AreNarrowing window state (narrowing window state steps)
  narrowing-narrowing state [] = tt
  narrowing-narrowing state (step ∷ steps) = elim (cases_Bool (is_idle window state step)) [
    | inl e ↦ rw (narrowing-idle state step steps e) (narrowing-narrowing state steps)
    | inr e ↦ rw (narrowing-more state step steps e) (e, narrowing-narrowing (after_step window state step) steps)
  ]
