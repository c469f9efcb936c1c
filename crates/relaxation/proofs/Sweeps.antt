-- Each sweep makes the last versions the run at one place more.
use Rattle.std.proofs.Common.{◌≡◌, ℕ, zero, suc, ◌+◌, ◌-◌, ◌<◌, ◌≤◌, List, [], ◌∷◌, length, sym, ◌∙◌, subst, arith, inl, inr, refl, map, Contains}
use Rattle.flowsheet.specs.Plant.{port, unit_at, origin_of, rank_of}
use Rattle.flowsheet.specs.Reading.{on_bands, inputs_of}
use Rattle.flowsheet.specs.Renewal.{renewed}
use Rattle.flowsheet.proofs.Ranks.{source, from_feed, from_port, unit_there, read_below}
use Rattle.flowsheet.proofs.Readings.{same-kept}
use Rattle.relaxation.specs.Tube.{IsWithin, at}
use Rattle.relaxation.specs.Window.{Window, IsOpen, renewal, run_tube, row_of}
use Rattle.relaxation.specs.Core.{Versions, Step, versions_of, last_of, IsLegal, after_step, replay, AreLegal, version_at, named, AreThere, origin_renewal, step_renewal, IsLegalFrom}
use Rattle.relaxation.specs.Sweep.{AreSweeps, replay_sweeps, place, IsRunBelow, AreNewest, ReadsNewest, IsSweep}
use Rattle.relaxation.proofs.Ticks.{at-tube_of}
use Rattle.relaxation.proofs.Chains.{versions-fall}
use Rattle.relaxation.proofs.Rows.{row-related}
use Rattle.relaxation.proofs.States.{run_at, KeepsRun, version-holds, last-holds, step-kept, replay-kept}
use Rattle.relaxation.proofs.Growth.{after-renewal, AreGrown, grown_itself, grown_through, step-grown, replay-grown}
use Rattle.relaxation.proofs.Places.{earlier-place, at-run_in, stays-run, renewal-run, settled-run, feed-run}

module _ (window : Window) (is : IsOpen window) where
  -- Now a sweep from a state whose last versions are the run below k.
  module _ (before : Versions) (were : KeepsRun window is before) (k : ℕ) (below : IsRunBelow window before k) where
    module _ (state : Versions) (kept : KeepsRun window is state) (grown : AreGrown before state) where
      -- versions no older than those are the run there too
      version-run : (t s i : ℕ) → t < window.ticks → s < length window.plant.streams → place window.plant t s < k →
          length (versions_of before s) - 1 ≤ i → i < length (versions_of state s) → run_at window is t s ≡ at (version_at state s i) t
      version-run t s i m l h new there =
          let some : 0 < length (versions_of before s) = (were.each s l).some in
          sym (at-run_in window is t s (version_at state s i) (last_of before s) m (version-holds window is state kept s i l there)
          (subst (IsWithin (version_at state s i)) ((grown s).first.same (length (versions_of before s) - 1) (omega arith))
          (versions-fall (run_tube window s) (window.opening s) (versions_of state s) (kept.each s l) (length (versions_of before s) - 1) i new there))
          (below t s m l h))

      -- so are the inputs that a step names
      named-run : (t u : ℕ) (numbers : List ℕ) → t < window.ticks → u < length window.plant.units →
          AreNewest before (unit_at window.plant u).reads numbers → AreThere state (unit_at window.plant u).reads numbers →
          ((r : ℕ) → Contains (unit_at window.plant u).reads r → place window.plant t r < k) →
          inputs_of (unit_at window.plant u) (run_at window is t) ≡ row_of (named state (unit_at window.plant u).reads numbers) t
      named-run t u numbers m v new there h = row-related (same-kept (on_bands window.plant)) (run_at window is t) before state t
          (unit_at window.plant u).reads numbers new there
          (λ r i c n l. version-run t r i m (is.ranked.reads u r v c) (h r c) n l)

      module _ (step : Step) (legal : IsLegal window state step) (new : ReadsNewest window before step.inputs (origin_of window.plant step.stream)) where
        -- the renewal is the run at the next place
        port-run : (t u p : ℕ) → t < window.ticks → origin_of window.plant step.stream ≡ port u p → place window.plant t step.stream < suc k →
            at (renewal window u p (named state (unit_at window.plant u).reads step.inputs)) t ≡ run_at window is t step.stream
        port-run t u p m e h =
            let v : u < length window.plant.units = unit_there window.plant step.stream u p is.ranked legal.stream e in
            let there : AreThere state (unit_at window.plant u).reads step.inputs = subst (IsLegalFrom window state step.inputs) e legal.inputs in
            let fresh : AreNewest before (unit_at window.plant u).reads step.inputs = subst (ReadsNewest window before step.inputs) e new in
            at-tube_of (renewed (on_bands window.plant) (unit_at window.plant u) p (window.carried u) (row_of (named state (unit_at window.plant u).reads step.inputs)))
            window.ticks t m
            ∙ renewal-run window is (row_of (named state (unit_at window.plant u).reads step.inputs)) t step.stream u p legal.stream e
            (λ q i. named-run q u step.inputs (omega arith) v fresh there (λ r c.
            let g : place window.plant q r < place window.plant t step.stream = earlier-place window is q t r step.stream i in omega arith))
            (λ i. named-run t u step.inputs m v fresh there (λ r c.
            let g : rank_of window.plant r < rank_of window.plant step.stream = read_below window.plant step.stream u p r is.ranked v e i c in omega arith))

        -- and so is the last version after the step
        step-run : (t : ℕ) → t < window.ticks → place window.plant t step.stream < suc k →
            at (last_of (after_step window state step) step.stream) t ≡ run_at window is t step.stream
        step-run t m h = elim (source (origin_of window.plant step.stream)) [
          | from_feed f e ↦ feed-run window is (after_step window state step) (step-kept window is state kept step legal) t step.stream f m legal.stream e
          | from_port u p e ↦ at-run_in window is t step.stream (last_of (after_step window state step) step.stream) (step_renewal window state step) m
              (last-holds window is (after_step window state step) (step-kept window is state kept step legal) step.stream legal.stream)
              (after-renewal window is state kept step legal)
              (subst (λ o. at (origin_renewal window state step.stream step.inputs o) t ≡ run_at window is t step.stream) (sym e) (port-run t u p m e h))
        ]

    -- a stream that a step of the sweep renews is the run at the next place when the sweep is done
    covered-run : (state : Versions) (steps : List Step) → KeepsRun window is state → AreGrown before state → AreLegal window state steps →
        ((step : Step) → Contains steps step → ReadsNewest window before step.inputs (origin_of window.plant step.stream)) →
        (t s : ℕ) → t < window.ticks → s < length window.plant.streams → place window.plant t s < suc k →
        Contains (map (λ (step : Step). step.stream) steps) s → at (last_of (replay window state steps) s) t ≡ run_at window is t s
    covered-run state [] kept grown legal new t s m l h c = absurd (omega (arith, c.1))
    covered-run state (step ∷ steps) kept grown legal new t s m l h (zero, i, e) =
        stays-run window is (after_step window state step) (replay window state (step ∷ steps)) (replay-kept window is state (step ∷ steps) kept legal)
        (replay-grown window is (after_step window state step) steps (step-kept window is state kept step legal.0) legal.1) t s m l
        (subst (λ r. at (last_of (after_step window state step) r) t ≡ run_at window is t r) e
        (step-run state kept grown step legal.0 (new step (0, omega arith, refl)) t m (subst (λ r. place window.plant t r < suc k) (sym e) h)))
    covered-run state (step ∷ steps) kept grown legal new t s m l h (suc j, i, e) =
        covered-run (after_step window state step) steps (step-kept window is state kept step legal.0)
        (grown_through before state (after_step window state step) grown (step-grown window is state kept step legal.0)) legal.1
        (λ x c. new x (suc c.0, omega (arith, c.1), c.2)) t s m l h (j, omega arith, e)

    -- so is each stream
    pub sweep-run : (steps : List Step) → IsSweep window before steps → IsRunBelow window (replay window before steps) (suc k)
    sweep-run steps sweep t s m l h = elim (source (origin_of window.plant s)) [
      | from_feed f e ↦ feed-run window is (replay window before steps) (replay-kept window is before steps were sweep.legal) t s f m l e
      | from_port u p e ↦ elim (sweep.covers s l) [
        | inl c ↦ covered-run before steps were (grown_itself before) sweep.legal sweep.newest t s m l h c
        | inr settled ↦ stays-run window is before (replay window before steps) (replay-kept window is before steps were sweep.legal)
            (replay-grown window is before steps were sweep.legal) t s m l (settled-run window is before were k below t s u p m l e h settled)
      ]
    ]

  -- sweeps keep the run
  pub sweeps-kept : (state : Versions) (sweeps : List (List Step)) → KeepsRun window is state → AreSweeps window state sweeps →
      KeepsRun window is (replay_sweeps window state sweeps)
  sweeps-kept state [] kept are = kept
  sweeps-kept state (steps ∷ sweeps) kept are = sweeps-kept (replay window state steps) sweeps (replay-kept window is state steps kept are.0.legal) are.1

  -- and make the last versions the run at one place more each
  pub sweeps-run : (state : Versions) (sweeps : List (List Step)) (k : ℕ) → KeepsRun window is state → IsRunBelow window state k →
      AreSweeps window state sweeps → IsRunBelow window (replay_sweeps window state sweeps) (k + length sweeps)
  sweeps-run state [] k kept below are = subst (IsRunBelow window state) (omega arith) below
  sweeps-run state (steps ∷ sweeps) k kept below are = subst (IsRunBelow window (replay_sweeps window (replay window state steps) sweeps)) (omega arith)
      (sweeps-run (replay window state steps) sweeps (suc k) (replay-kept window is state steps kept are.0.legal) (sweep-run state kept k below steps are.0) are.1)

  -- from none on
  pub sweeps-below : (state : Versions) → KeepsRun window is state → (sweeps : List (List Step)) → AreSweeps window state sweeps →
      IsRunBelow window (replay_sweeps window state sweeps) (length sweeps)
  sweeps-below state kept sweeps are = subst (IsRunBelow window (replay_sweeps window state sweeps)) (omega arith)
      (sweeps-run state sweeps 0 kept (λ t s m l h. absurd (omega arith)) are)
