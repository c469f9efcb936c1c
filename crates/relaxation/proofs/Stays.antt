-- A step puts at most one version behind those that are there, whatever the state. So what a step names stays.
use Rattle.std.proofs.Common.{◌≡◌, ℕ, ◌<◌, ◌≤◌, List, [], ◌∷◌, ◌++◌, length, sym, ap, ◌∙◌, subst, arith, length-append, inl, inr, refl, false}
use Rattle.std.proofs.lemmas.Bool.{cases_eq, cases_lt, cases_Bool}
use Rattle.std.proofs.lemmas.List.{get_or-set_same, get_or_past}
use Rattle.quant.proofs.Calls.{same_cons}
use Rattle.flowsheet.specs.Plant.{Origin, feed, port, unit_at, origin_of}
use Rattle.relaxation.specs.Tube.{Tube, meet}
use Rattle.relaxation.specs.Window.{Window, renewal}
use Rattle.relaxation.specs.Core.{Versions, Step, versions_of, version_at, last_of, named, AreThere, origin_renewal, step_renewal, IsLegalFrom, IsLegal, is_idle, after_step, replay}
use Rattle.relaxation.proofs.Sequences.{after-idle, after-narrows, versions-elsewhere}
use Rattle.relaxation.proofs.Chains.{tube_at, push-old}

-- the first versions are the first of the second
pub record AreFirst (versions more : List Tube) : Type 0 where
  pub longer : length versions ≤ length more
  pub same : (k : ℕ) → k < length versions → tube_at more k ≡ tube_at versions k

-- versions among themselves
pub first_itself : (versions : List Tube) → AreFirst versions versions
first_itself versions = record { longer = omega arith; same = λ k l. refl }

-- among later ones
pub first_through : (xs ys zs : List Tube) → AreFirst xs ys → AreFirst ys zs → AreFirst xs zs
first_through xs ys zs h k = record {
  longer = omega arith;
  same = λ i l. k.same i (omega arith) ∙ h.same i l;
}

-- and among these and one more
first_push : (versions : List Tube) (T : Tube) → AreFirst versions (versions ++ T ∷ [])
first_push versions T = record {
  longer = omega (arith, length-append versions (T ∷ []));
  same = λ k l. push-old versions T k l;
}

-- none are first everywhere
first_none : (versions more : List Tube) → versions ≡ [] → AreFirst versions more
first_none versions more e =
    let none : length versions ≡ 0 = ap length e in
    record { longer = omega arith; same = λ k l. absurd (omega arith) }

module _ (window : Window) (state : Versions) (step : Step) where
  -- a step that is not idle puts one version behind those of its stream, where that is there
  stays-here : is_idle window state step ≡ false →
      AreFirst (versions_of state step.stream) (versions_of (after_step window state step) step.stream)
  stays-here e = elim (cases_lt step.stream (length state)) [
    | inl l ↦ subst (AreFirst (versions_of state step.stream))
        (sym (ap (λ x. versions_of x step.stream) (after-narrows window state step e)
        ∙ get_or-set_same state step.stream _ [] l))
        (first_push (versions_of state step.stream)
        (meet (last_of state step.stream) (step_renewal window state step)))
    | inr n ↦ first_none _ _ (get_or_past state step.stream [] n)
  ]

  -- so those of every stream stay
  pub step-stays : (s : ℕ) → AreFirst (versions_of state s) (versions_of (after_step window state step) s)
  step-stays s = elim (cases_Bool (is_idle window state step)) [
    | inl e ↦ subst (λ x. AreFirst (versions_of state s) (versions_of x s)) (sym (after-idle window state step e))
        (first_itself (versions_of state s))
    | inr e ↦ elim (cases_eq s step.stream) [
      | inl g ↦ subst (λ i. AreFirst (versions_of state i) (versions_of (after_step window state step) i)) (sym g)
          (stays-here e)
      | inr n ↦ subst (AreFirst (versions_of state s)) (sym (versions-elsewhere window state step s n))
          (first_itself (versions_of state s))
    ]
  ]

-- also after a list of steps
pub replay-stays : (window : Window) (state : Versions) (steps : List Step) (s : ℕ) →
    AreFirst (versions_of state s) (versions_of (replay window state steps) s)
replay-stays window state [] s = first_itself (versions_of state s)
replay-stays window state (step ∷ steps) s = first_through _ _ _ (step-stays window state step s)
    (replay-stays window (after_step window state step) steps s)

module _ (state next : Versions) (first : (s : ℕ) → AreFirst (versions_of state s) (versions_of next s)) where
  -- named versions that are there stay
  there-stays : (reads numbers : List ℕ) → AreThere state reads numbers → AreThere next reads numbers
  there-stays [] [] h = tt
  there-stays [] (k ∷ numbers) h = absurd h
  there-stays (s ∷ reads) [] h = absurd h
  there-stays (s ∷ reads) (k ∷ numbers) h =
      let l : length (versions_of state s) ≤ length (versions_of next s) = (first s).longer in
      let m : k < length (versions_of state s) = h.0 in
      (omega arith, there-stays reads numbers h.1)

  -- and are the same
  named-stays : (reads numbers : List ℕ) → AreThere state reads numbers →
      named next reads numbers ≡ named state reads numbers
  named-stays [] [] h = refl
  named-stays [] (k ∷ numbers) h = absurd h
  named-stays (s ∷ reads) [] h = absurd h
  named-stays (s ∷ reads) (k ∷ numbers) h =
      same_cons (version_at next s k) (version_at state s k) (named next reads numbers) (named state reads numbers)
      ((first s).same k h.0) (named-stays reads numbers h.1)

  -- so what is legal for an origin stays it
  from-stays : (window : Window) (numbers : List ℕ) (o : Origin) → IsLegalFrom window state numbers o →
      IsLegalFrom window next numbers o
  from-stays window numbers (feed f) h = h
  from-stays window numbers (port u p) h = there-stays (unit_at window.plant u).reads numbers h

  -- and so does a legal step
  pub legal-stays : (window : Window) (step : Step) → IsLegal window state step → IsLegal window next step
  legal-stays window step legal = record {
    stream = legal.stream;
    inputs = from-stays window step.inputs (origin_of window.plant step.stream) legal.inputs;
  }

  -- what is legal for an origin renews to the same
  origin-stays : (window : Window) (s : ℕ) (numbers : List ℕ) (o : Origin) → IsLegalFrom window state numbers o →
      origin_renewal window next s numbers o ≡ origin_renewal window state s numbers o
  origin-stays window s numbers (feed f) h = absurd h
  origin-stays window s numbers (port u p) h =
      ap (renewal window u p) (named-stays (unit_at window.plant u).reads numbers h)

  -- and so does a legal step
  pub renewal-stays : (window : Window) (step : Step) → IsLegal window state step →
      step_renewal window next step ≡ step_renewal window state step
  renewal-stays window step legal =
      origin-stays window step.stream step.inputs (origin_of window.plant step.stream) legal.inputs
