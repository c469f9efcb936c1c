-- A quiet state is the run.
use Rattle.std.proofs.Common.{◌≡◌, ℕ, zero, suc, ◌<◌, List, length, sym, ap, ◌∙◌, subst, arith, refl, map}
use Rattle.std.proofs.lemmas.List.Folds.{flat_map-map}
use Rattle.quant.specs.Interval.{Interval, AllBands, AllInside}
use Rattle.flowsheet.specs.Plant.{feed, port, unit_at, origin_of, PlantUnit}
use Rattle.flowsheet.specs.Reading.{on_bands, inputs_of, Reader}
use Rattle.flowsheet.specs.Renewal.{renewed, renewed_states, renewed_origin, renewed_stream}
use Rattle.flowsheet.proofs.Bands.{inside-itself}
use Rattle.flowsheet.proofs.Ranks.{source, from_feed, from_port}
use Rattle.flowsheet.proofs.Readings.{same-kept, shown-kept, stepped-kept}
use Rattle.flowsheet.proofs.Tubes.{quiet-inside}
use Rattle.relaxation.specs.Tube.{IsWithin, at}
use Rattle.relaxation.specs.Window.{Window, IsOpen, renewal, run_tube, row_of}
use Rattle.relaxation.specs.Core.{Versions, last_of, IsSettled, IsQuiet}
use Rattle.relaxation.proofs.Meets.{within-both, numbers-wider}
use Rattle.relaxation.proofs.Ticks.{at-tube_of, length-tube_of, within-length, within-at, within-each, numbers-at}
use Rattle.relaxation.proofs.States.{run_at, run-numbers, KeepsRun, last-holds}

-- states renewed from equal rows are equal
states-rows : {A : Type 0} (read : Reader A) (unit : PlantUnit) (carried : List A) (rows other : ℕ → List A) →
    ((q : ℕ) → rows q ≡ other q) → (t : ℕ) → renewed_states read unit carried rows t ≡ renewed_states read unit carried other t
states-rows read unit carried rows other h zero = refl
states-rows read unit carried rows other h (suc t) =
    stepped-kept (same-kept read) unit _ _ _ _ (states-rows read unit carried rows other h t) (h t)

-- and so is what they show
renewed-rows : {A : Type 0} (read : Reader A) (unit : PlantUnit) (p : ℕ) (carried : List A) (rows other : ℕ → List A) →
    ((q : ℕ) → rows q ≡ other q) → (t : ℕ) → renewed read unit p carried rows t ≡ renewed read unit p carried other t
renewed-rows read unit p carried rows other h t =
    shown-kept (same-kept read) unit p _ _ _ _ (states-rows read unit carried rows other h t) (λ i. h t)

module _ (window : Window) (is : IsOpen window) (state : Versions) (kept : KeepsRun window is state) where
  -- the bands of the last versions at a tick
  abbrev pub last_at : ℕ → ℕ → List Interval
  last_at t s = at (last_of state s) t

  -- they have numbers
  last-bands : (t s : ℕ) → s < length window.plant.streams → AllBands (last_at t s)
  last-bands t s l = numbers-at (last_of state s) t
      (numbers-wider (run_tube window s) (last_of state s) (run-numbers window is s l) (last-holds window is state kept s l))

  -- those of a feed lie in its bands
  pub last-fed : (t s f : ℕ) → t < window.ticks → s < length window.plant.streams → origin_of window.plant s ≡ feed f →
      AllInside (last_at t s) (window.feeds t f)
  last-fed t s f m l e = subst (AllInside (last_at t s)) (ap (λ A. at A t) (is.fed s f l e) ∙ at-tube_of (λ q. window.feeds q f) window.ticks t m)
      (within-at (last_of state s) (window.opening s) t (kept.each s l).opened)

  -- the inputs of a unit from the last versions
  abbrev pub last_inputs : ℕ → ℕ → List Interval
  last_inputs u t = inputs_of (unit_at window.plant u) (last_at t)

  -- a unit's renewal from the last versions at a tick
  pub renewal-at : (u p t : ℕ) → t < window.ticks → at (renewal window u p (map (last_of state) (unit_at window.plant u).reads)) t
      ≡ renewed (on_bands window.plant) (unit_at window.plant u) p (window.carried u) (last_inputs u) t
  renewal-at u p t m =
      at-tube_of (renewed (on_bands window.plant) (unit_at window.plant u) p (window.carried u)
      (row_of (map (last_of state) (unit_at window.plant u).reads))) window.ticks t m
      ∙ renewed-rows (on_bands window.plant) (unit_at window.plant u) p (window.carried u) _ (last_inputs u)
      (λ q. flat_map-map (λ A. at A q) (last_of state) (unit_at window.plant u).reads) t

  -- the last version of a settled stream lies in it at each tick
  pub settled-inside : (t s u p : ℕ) → t < window.ticks → origin_of window.plant s ≡ port u p → IsSettled window state s (origin_of window.plant s) →
      AllInside (last_at t s) (renewed (on_bands window.plant) (unit_at window.plant u) p (window.carried u) (last_inputs u) t)
  settled-inside t s u p m e settled =
      let h : IsWithin (last_of state s) (renewal window u p (map (last_of state) (unit_at window.plant u).reads))
      = subst (IsSettled window state s) e settled in
      subst (AllInside (last_at t s)) (renewal-at u p t m) (within-at (last_of state s) _ t h)

  -- so in a quiet state each stream's does
  quiet-renews : IsQuiet window state → (t s : ℕ) → t < window.ticks → s < length window.plant.streams →
      AllInside (last_at t s) (renewed_stream (on_bands window.plant) window.plant window.carried last_at t s)
  quiet-renews quiet t s m l = elim (source (origin_of window.plant s)) [
    | from_feed f e ↦ subst (λ o. AllInside (last_at t s) (renewed_origin (on_bands window.plant) window.plant window.carried last_at t s o))
        (sym e) (inside-itself (last_at t s))
    | from_port u p e ↦ subst (λ o. AllInside (last_at t s) (renewed_origin (on_bands window.plant) window.plant window.carried last_at t s o))
        (sym e) (settled-inside t s u p m e (quiet s l))
  ]

  -- a last version that lies in the run at each tick is the run
  pub last-run : (s : ℕ) → s < length window.plant.streams → ((t : ℕ) → t < window.ticks → AllInside (last_at t s) (run_at window is t s)) →
      last_of state s ≡ run_tube window s
  last-run s l h =
      let n : length (run_tube window s) ≡ length (last_of state s) = within-length _ _ (last-holds window is state kept s l) in
      let k : length (run_tube window s) ≡ window.ticks = length-tube_of (λ t. run_at window is t s) window.ticks in
      within-both (last_of state s) (run_tube window s) (within-each _ _ (sym n) (λ t i. let m : t < window.ticks = omega arith in
      subst (AllInside (last_at t s)) (sym (at-tube_of (λ q. run_at window is q s) window.ticks t m)) (h t m)))
      (last-holds window is state kept s l)

  -- and so a quiet state is
  pub quiet-run : IsQuiet window state → (s : ℕ) → s < length window.plant.streams → last_of state s ≡ run_tube window s
  quiet-run quiet s l = last-run s l (λ t m. quiet-inside window.plant window.carried window.feeds window.ticks last_at is.ranked is.bands
      (λ q r i j. last-bands q r j) last-fed (quiet-renews quiet) t s m l)
