-- Legal steps keep the run: what holds of the versions of all streams holds after each step.
use Rattle.std.proofs.Common.{◌≡◌, ℕ, ◌<◌, List, [], ◌∷◌, ◌++◌, length, sym, ap, ◌∙◌, subst, arith, inl, inr, true, false, Contains}
use Rattle.std.specs.Prelude.{flat_map}
use Rattle.std.proofs.lemmas.List.{get_or-set_same, length-set}
use Rattle.std.proofs.lemmas.Bool.{cases_eq, cases_Bool, both_ways}
use Rattle.std.proofs.lemmas.List.FromFn.{get_or-map-range_with_len, length-map-range_with_len}
use Rattle.quant.specs.Interval.{Interval, AllBands, AllInside}
use Rattle.flowsheet.specs.Plant.{port, unit_at, origin_of}
use Rattle.flowsheet.specs.Reading.{on_bands}
use Rattle.flowsheet.specs.Run.{run_streams}
use Rattle.flowsheet.proofs.Bands.{inside-itself}
use Rattle.flowsheet.proofs.Ranks.{source, from_feed, from_port, unit_there}
use Rattle.flowsheet.proofs.Readings.{AreBandsIn, bands-kept}
use Rattle.flowsheet.proofs.Renewals.{stream-renewed}
use Rattle.flowsheet.proofs.Runs.{streams-bands}
use Rattle.relaxation.specs.Tube.{Tube, IsWithin, IsNarrower, HasNumbers, meet, at}
use Rattle.relaxation.specs.Window.{Window, IsOpen, renewal, run_tube, row_of}
use Rattle.relaxation.specs.Core.{Versions, Step, versions_of, last_of, IsLegal, is_idle, after_step, replay, AreLegal, version_at, named, AreThere, origin_renewal, step_renewal, IsLegalFrom, opening_versions, reached}
use Rattle.relaxation.proofs.Meets.{within-yes, within-test, meet-wider, meet-holds, meet-left, meet-right, numbers-wider}
use Rattle.relaxation.proofs.Ticks.{at-tube_of, within-at, tube-within, tube-numbers}
use Rattle.relaxation.proofs.Sequences.{after-idle, after-narrows, versions-elsewhere}
use Rattle.relaxation.proofs.Chains.{AreVersions, versions_open, versions_push}
use Rattle.relaxation.proofs.Rows.{row-related, newest_none}

module _ (window : Window) (is : IsOpen window) where
  -- the bands of a stream's run at a tick
  abbrev pub run_at : ℕ → ℕ → List Interval
  run_at t s = run_streams (on_bands window.plant) window.plant window.carried window.feeds t s

  -- they have numbers
  pub run-bands : (t s : ℕ) → t < window.ticks → s < length window.plant.streams → AllBands (run_at t s)
  run-bands = streams-bands window.plant window.carried window.feeds window.ticks is.ranked is.bands

  -- and so does the run's tube
  pub run-numbers : (s : ℕ) → s < length window.plant.streams → HasNumbers (run_tube window s)
  run-numbers s l = tube-numbers (λ t. run_at t s) window.ticks (λ t m. run-bands t s m l)

  -- a tube that holds the run does at each tick
  pub run-inside : (s t : ℕ) (A : Tube) → t < window.ticks → IsWithin (run_tube window s) A → AllInside (run_at t s) (at A t)
  run-inside s t A m h = subst (λ x. AllInside x (at A t)) (at-tube_of (λ q. run_at q s) window.ticks t m) (within-at (run_tube window s) A t h)

  -- the versions of each stream are those of one with its run and its opening tube
  pub record KeepsRun (state : Versions) : Type 0 where
    pub counted : length state ≡ length window.plant.streams
    pub each : (s : ℕ) → s < length window.plant.streams → AreVersions (run_tube window s) (window.opening s) (versions_of state s)

  -- those that the window opens with are
  pub opening-kept : KeepsRun (opening_versions window)
  opening-kept = record {
    counted = length-map-range_with_len (λ s. window.opening s ∷ []) 0 (length window.plant.streams);
    each = λ s l. subst (AreVersions (run_tube window s) (window.opening s))
        (sym (get_or-map-range_with_len (λ q. window.opening q ∷ []) 0 (length window.plant.streams) s s [] l (omega arith)))
        (versions_open (run_tube window s) (window.opening s) (is.holds s l));
  }

  module _ (state : Versions) (kept : KeepsRun state) where
    -- each version that is there holds the run
    pub version-holds : (s k : ℕ) → s < length window.plant.streams → k < length (versions_of state s) →
        IsWithin (run_tube window s) (version_at state s k)
    version-holds s k l m = (kept.each s l).holds k m

    -- also the last
    pub last-holds : (s : ℕ) → s < length window.plant.streams → IsWithin (run_tube window s) (last_of state s)
    last-holds s l = let some : 0 < length (versions_of state s) = (kept.each s l).some in version-holds s _ l (omega arith)

    -- the row from named versions of streams holds the inputs in the run
    row-holds : (t : ℕ) (reads numbers : List ℕ) → t < window.ticks → ((q : ℕ) → Contains reads q → q < length window.plant.streams) →
        AreThere state reads numbers → AreBandsIn (flat_map (run_at t) reads) (row_of (named state reads numbers) t)
    row-holds t reads numbers m streams there = row-related (bands-kept window.plant.rounding) (run_at t) [] state t reads numbers
        (newest_none reads numbers) there (λ q k c new l. record {
          bands = run-bands t q m (streams q c);
          inside = run-inside q t (version_at state q k) m (version-holds q k (streams q c) l);
        })

    module _ (step : Step) (legal : IsLegal window state step) where
      -- and the renewal from them holds the run
      port-holds : (u p : ℕ) → origin_of window.plant step.stream ≡ port u p →
          IsWithin (run_tube window step.stream) (renewal window u p (named state (unit_at window.plant u).reads step.inputs))
      port-holds u p e =
          let there : AreThere state (unit_at window.plant u).reads step.inputs = subst (IsLegalFrom window state step.inputs) e legal.inputs in
          let v : u < length window.plant.units = unit_there window.plant step.stream u p is.ranked legal.stream e in
          tube-within (λ t. run_at t step.stream) _ window.ticks (λ t m. (stream-renewed window.plant window.carried window.feeds u (window.carried u)
          (row_of (named state (unit_at window.plant u).reads step.inputs)) (bands-kept window.plant.rounding) is.ranked
          (record { bands = is.bands.states u v; inside = inside-itself (window.carried u) }) t step.stream p legal.stream e
          (λ q k. row-holds q (unit_at window.plant u).reads step.inputs (omega arith) (λ r c. is.ranked.reads u r v c) there)
          (λ i. row-holds t (unit_at window.plant u).reads step.inputs m (λ r c. is.ranked.reads u r v c) there)).inside)

      -- whatever the stream comes from
      pub renewal-holds : IsWithin (run_tube window step.stream) (step_renewal window state step)
      renewal-holds = elim (source (origin_of window.plant step.stream)) [
        | from_feed f e ↦ absurd (subst (IsLegalFrom window state step.inputs) e legal.inputs)
        | from_port u p e ↦ subst (λ o. IsWithin (run_tube window step.stream) (origin_renewal window state step.stream step.inputs o)) (sym e) (port-holds u p e)
      ]

      -- the meet of the last version with the renewal
      abbrev pub step_meet : Tube
      step_meet = meet (last_of state step.stream) (step_renewal window state step)

      -- it holds the run too
      pub step-holds : IsWithin (run_tube window step.stream) step_meet
      step-holds = meet-holds (run_tube window step.stream) _ _ (last-holds step.stream legal.stream) renewal-holds

      -- so it has numbers
      pub step-numbers : HasNumbers step_meet
      step-numbers = numbers-wider (run_tube window step.stream) step_meet (run-numbers step.stream legal.stream) step-holds

      -- that of a step that is not idle is another than the last version
      step_other : is_idle window state step ≡ false → step_meet ≡ last_of state step.stream → ⊥
      step_other e g = both_ways (is_idle window state step) e (within-test (last_of state step.stream) (step_renewal window state step)
          (subst (λ A. IsWithin A (step_renewal window state step)) g
          (meet-right (run_tube window step.stream) _ _ (last-holds step.stream legal.stream) renewal-holds)))

      -- and strictly narrower
      pub step-narrower : is_idle window state step ≡ false → IsNarrower step_meet (last_of state step.stream)
      step-narrower e = record {
        within = meet-left (run_tube window step.stream) _ _ (last-holds step.stream legal.stream) renewal-holds;
        other = step_other e;
      }

      -- that of an idle step is the last version
      pub step-idle : is_idle window state step ≡ true → step_meet ≡ last_of state step.stream
      step-idle e = meet-wider _ _ (within-yes _ _ e)

      -- after a step that is not idle its stream has one version more
      pub pushed-here : is_idle window state step ≡ false →
          versions_of (after_step window state step) step.stream ≡ versions_of state step.stream ++ step_meet ∷ []
      pushed-here e = ap (λ x. versions_of x step.stream) (after-narrows window state step e)
          ∙ get_or-set_same state step.stream _ [] (subst (λ n. step.stream < n) (sym kept.counted) legal.stream)

      -- which are still versions of this stream
      pushed-versions : (s : ℕ) → s < length window.plant.streams → is_idle window state step ≡ false → s ≡ step.stream →
          AreVersions (run_tube window s) (window.opening s) (versions_of (after_step window state step) s)
      pushed-versions s l e g = subst (λ i. AreVersions (run_tube window i) (window.opening i) (versions_of (after_step window state step) i)) (sym g)
          (subst (AreVersions (run_tube window step.stream) (window.opening step.stream)) (sym (pushed-here e))
          (versions_push (run_tube window step.stream) (window.opening step.stream) (versions_of state step.stream) step_meet
          (run-numbers step.stream legal.stream) (kept.each step.stream legal.stream) step-holds (step-narrower e)))

      -- so the run is kept by a step that is not idle
      narrowed-kept : is_idle window state step ≡ false → KeepsRun (after_step window state step)
      narrowed-kept e = record {
        counted = ap length (after-narrows window state step e) ∙ (length-set state step.stream _ ∙ kept.counted);
        each = λ s l. elim (cases_eq s step.stream) [
          | inl g ↦ pushed-versions s l e g
          | inr n ↦ subst (AreVersions (run_tube window s) (window.opening s)) (sym (versions-elsewhere window state step s n)) (kept.each s l)
        ];
      }

      -- and by any
      pub step-kept : KeepsRun (after_step window state step)
      step-kept = elim (cases_Bool (is_idle window state step)) [
        | inl e ↦ subst KeepsRun (sym (after-idle window state step e)) kept
        | inr e ↦ narrowed-kept e
      ]

  -- it is kept by legal steps
  pub replay-kept : (state : Versions) (steps : List Step) → KeepsRun state → AreLegal window state steps → KeepsRun (replay window state steps)
  replay-kept state [] kept legal = kept
  replay-kept state (step ∷ steps) kept legal = replay-kept (after_step window state step) steps (step-kept state kept step legal.0) legal.1

  -- also from the opening tubes on
  pub reached-kept : (steps : List Step) → AreLegal window (opening_versions window) steps →
      KeepsRun (reached window steps)
  reached-kept steps legal = replay-kept (opening_versions window) steps opening-kept legal
