-- Legal steps narrow: the last version of each stream lies in the last before, and in each renewal that was made for it.
use Rattle.std.proofs.Common.{◌≡◌, ℕ, zero, suc, List, [], ◌∷◌, Contains, sym, ap, ◌∙◌, subst, inl, inr, true, false, arith}
use Rattle.std.proofs.lemmas.Bool.{cases_eq, cases_Bool}
use Rattle.relaxation.specs.Tube.{Tube, IsWithin}
use Rattle.relaxation.specs.Window.{Window, IsOpen, run_tube}
use Rattle.relaxation.specs.Core.{Versions, Step, versions_of, last_of, IsLegal, is_idle, after_step, replay, AreLegal, step_renewal}
use Rattle.relaxation.proofs.Meets.{within-yes, within-test, within-itself, within-through, meet-right}
use Rattle.relaxation.proofs.Sequences.{after-idle, versions-elsewhere}
use Rattle.relaxation.proofs.Chains.{newest, push-newest}
use Rattle.relaxation.proofs.States.{KeepsRun, last-holds, renewal-holds, step_meet, step-narrower, pushed-here, step-kept}
use Rattle.relaxation.proofs.Stays.{AreFirst, first_itself, first_through, step-stays, legal-stays, renewal-stays}

-- the versions of a stream are the first of more, and the newest of these lies in theirs
pub record IsLonger (versions more : List Tube) : Type 0 where
  pub first : AreFirst versions more
  pub within : IsWithin (newest more) (newest versions)

-- the versions of each stream among those of another state
abbrev pub AreGrown : Versions → Versions → Type 0
AreGrown state next = (s : ℕ) → IsLonger (versions_of state s) (versions_of next s)

-- of a state in itself
pub grown_itself : (state : Versions) → AreGrown state state
grown_itself state s =
    record { first = first_itself (versions_of state s); within = within-itself (last_of state s) }

-- and in a later one
pub grown_through : (state next later : Versions) → AreGrown state next → AreGrown next later → AreGrown state later
grown_through state next later h k s = record {
  first = first_through (versions_of state s) (versions_of next s) (versions_of later s) (h s).first (k s).first;
  within = within-through (last_of later s) (last_of next s) (last_of state s) (k s).within (h s).within;
}

module _ (window : Window) (is : IsOpen window) where
  -- a step that is not idle narrows the last version of its stream
  narrowed-within : (state : Versions) (kept : KeepsRun window is state) (step : Step) (legal : IsLegal window state step) →
      is_idle window state step ≡ false →
      IsWithin (last_of (after_step window state step) step.stream) (last_of state step.stream)
  narrowed-within state kept step legal e = subst (λ A. IsWithin A (last_of state step.stream))
      (sym (ap newest (pushed-here window is state kept step legal e)
      ∙ push-newest (versions_of state step.stream) (step_meet window is state kept step legal)))
      (step-narrower window is state kept step legal e).within

  -- and leaves those of the others, as an idle one does
  step-within : (state : Versions) → KeepsRun window is state → (step : Step) → IsLegal window state step → (s : ℕ) →
      IsWithin (last_of (after_step window state step) s) (last_of state s)
  step-within state kept step legal s = elim (cases_Bool (is_idle window state step)) [
    | inl e ↦ subst (λ x. IsWithin (last_of x s) (last_of state s)) (sym (after-idle window state step e))
        (within-itself (last_of state s))
    | inr e ↦ elim (cases_eq s step.stream) [
      | inl g ↦ subst (λ i. IsWithin (last_of (after_step window state step) i) (last_of state i)) (sym g)
          (narrowed-within state kept step legal e)
      | inr n ↦ subst (λ x. IsWithin (newest x) (last_of state s)) (sym (versions-elsewhere window state step s n))
          (within-itself (last_of state s))
    ]
  ]

  -- so versions are only appended by a step, and the last one only narrows
  pub step-grown : (state : Versions) → KeepsRun window is state → (step : Step) → IsLegal window state step →
      AreGrown state (after_step window state step)
  step-grown state kept step legal s =
      record { first = step-stays window state step s; within = step-within state kept step legal s }

  -- and by steps
  pub replay-grown : (state : Versions) (steps : List Step) → KeepsRun window is state → AreLegal window state steps →
      AreGrown state (replay window state steps)
  replay-grown state [] kept legal = grown_itself state
  replay-grown state (step ∷ steps) kept legal =
      grown_through state (after_step window state step) (replay window state (step ∷ steps))
      (step-grown state kept step legal.0)
      (replay-grown (after_step window state step) steps (step-kept window is state kept step legal.0) legal.1)

-- a step that narrows nothing goes on so
pub idle-grown : (state next : Versions) (grown : AreGrown state next) (window : Window) (step : Step) →
    IsLegal window state step → is_idle window state step ≡ true → is_idle window next step ≡ true
idle-grown state next grown window step legal e = within-test (last_of next step.stream) (step_renewal window next step)
    (subst (IsWithin (last_of next step.stream))
    (sym (renewal-stays state next (λ s. (grown s).first) window step legal))
    (within-through (last_of next step.stream) (last_of state step.stream) (step_renewal window state step)
    (grown step.stream).within (within-yes (last_of state step.stream) (step_renewal window state step) e)))

module _ (window : Window) (is : IsOpen window) where
  -- after a step its stream's last version lies in the renewal
  pub after-renewal : (state : Versions) → KeepsRun window is state → (step : Step) → IsLegal window state step →
      IsWithin (last_of (after_step window state step) step.stream) (step_renewal window state step)
  after-renewal state kept step legal = elim (cases_Bool (is_idle window state step)) [
    | inl e ↦ subst (λ x. IsWithin (last_of x step.stream) (step_renewal window state step))
        (sym (after-idle window state step e))
        (within-yes (last_of state step.stream) (step_renewal window state step) e)
    | inr e ↦ subst (λ A. IsWithin A (step_renewal window state step))
        (sym (ap newest (pushed-here window is state kept step legal e)
        ∙ push-newest (versions_of state step.stream) (step_meet window is state kept step legal)))
        (meet-right (run_tube window step.stream) (last_of state step.stream) (step_renewal window state step)
        (last-holds window is state kept step.stream legal.stream) (renewal-holds window is state kept step legal))
  ]

  -- so once more it narrows nothing
  again-idle : (state : Versions) → KeepsRun window is state → (step : Step) → IsLegal window state step →
      is_idle window (after_step window state step) step ≡ true
  again-idle state kept step legal = within-test _ _
      (subst (IsWithin (last_of (after_step window state step) step.stream))
      (sym (renewal-stays state (after_step window state step) (step-stays window state step) window step legal))
      (after-renewal state kept step legal))

  -- nor whatever followed it
  pub done-idle : (state : Versions) (steps : List Step) (step : Step) → KeepsRun window is state →
      AreLegal window state steps → Contains steps step → is_idle window (replay window state steps) step ≡ true
  done-idle state [] step kept legal c = absurd (omega (arith, c.1))
  done-idle state (first ∷ steps) step kept legal (zero, l, e) =
      subst (λ x. is_idle window (replay window state (first ∷ steps)) x ≡ true) e
      (idle-grown (after_step window state first) (replay window state (first ∷ steps))
      (replay-grown window is (after_step window state first) steps (step-kept window is state kept first legal.0) legal.1)
      window first (legal-stays state (after_step window state first) (step-stays window state first) window first legal.0)
      (again-idle state kept first legal.0))
  done-idle state (first ∷ steps) step kept legal (suc j, l, e) =
      done-idle (after_step window state first) steps step (step-kept window is state kept first legal.0) legal.1
      (j, omega arith, e)
