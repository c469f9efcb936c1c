-- The places of the run in their order, and where the last versions are the run.
use Rattle.std.proofs.Common.{◌≡◌, ℕ, suc, ◌+◌, ◌<◌, ◌≤◌, List, length, sym, ◌∙◌, subst, subst₂, arith, refl, true, ◌*◌, map, Contains}
use Rattle.std.proofs.Math.Nat.{mul-le-mul_right}
use Rattle.quant.specs.Interval.{Interval, AllInside}
use Rattle.flowsheet.specs.Plant.{feed, port, unit_at, origin_of, rank_of}
use Rattle.flowsheet.specs.Reading.{on_bands, inputs_of}
use Rattle.flowsheet.specs.Renewal.{renewed}
use Rattle.flowsheet.proofs.Bands.{inside-itself}
use Rattle.flowsheet.proofs.Ranks.{source, from_feed, from_port, unit_there, rank_top, read_below}
use Rattle.flowsheet.proofs.Readings.{same-kept, inputs-kept}
use Rattle.flowsheet.proofs.Renewals.{stream-renewed}
use Rattle.flowsheet.proofs.Stages.{run-fed}
use Rattle.relaxation.specs.Tube.{Tube, IsWithin, at}
use Rattle.relaxation.specs.Window.{Window, IsOpen, renewal, run_tube}
use Rattle.relaxation.specs.Core.{Versions, last_of, IsSettled, IsQuiet}
use Rattle.relaxation.specs.Sweep.{place, IsRunBelow}
use Rattle.relaxation.proofs.Meets.{inside-both}
use Rattle.relaxation.proofs.Ticks.{length-tube_of, within-length, within-at, within-each}
use Rattle.relaxation.proofs.States.{run_at, run-inside, KeepsRun, last-holds}
use Rattle.relaxation.proofs.Quiet.{last_at, last-fed, last_inputs, renewal-at, settled-inside}
use Rattle.relaxation.proofs.Growth.{AreGrown}

-- a place at an earlier tick is less
earlier_tick : (q t n a b : ℕ) → q < t → a ≤ n → q * (n + 1) + a < t * (n + 1) + b
earlier_tick q t n a b h l =
    let g : (q + 1) * (n + 1) ≤ t * (n + 1) = mul-le-mul_right (n + 1) (omega arith) in
    let e : (q + 1) * (n + 1) ≡ q * (n + 1) + (n + 1) = grind arith in
    omega arith

module _ (window : Window) (is : IsOpen window) where
  -- of any stream
  pub earlier-place : (q t r s : ℕ) → q < t → place window.plant q r < place window.plant t s
  earlier-place q t r s h =
      earlier_tick q t window.plant.top (rank_of window.plant r) (rank_of window.plant s) h (rank_top window.plant r is.ranked)

  -- places in the window are less than their number
  place-all : (t s : ℕ) → t < window.ticks → place window.plant t s < window.ticks * (window.plant.top + 1)
  place-all t s h =
      let g : place window.plant t s < window.ticks * (window.plant.top + 1) + 0
      = earlier_tick t window.ticks window.plant.top (rank_of window.plant s) 0 h (rank_top window.plant s is.ranked) in
      omega arith

  -- a tube that holds the run and lies in the run's bands at a tick has these there
  at-run : (t s : ℕ) (A : Tube) → t < window.ticks → IsWithin (run_tube window s) A → AllInside (at A t) (run_at window is t s) → at A t ≡ run_at window is t s
  at-run t s A m h k = inside-both (at A t) (run_at window is t s) k (run-inside window is s t A m h)

  -- also one that lies in another which has them
  pub at-run_in : (t s : ℕ) (A B : Tube) → t < window.ticks → IsWithin (run_tube window s) A → IsWithin A B → at B t ≡ run_at window is t s → at A t ≡ run_at window is t s
  at-run_in t s A B m h k e = at-run t s A m h (subst (AllInside (at A t)) e (within-at A B t k))

  -- a last version that is the run at a tick stays it
  pub stays-run : (state next : Versions) → KeepsRun window is next → AreGrown state next → (t s : ℕ) → t < window.ticks → s < length window.plant.streams →
      at (last_of state s) t ≡ run_at window is t s → at (last_of next s) t ≡ run_at window is t s
  stays-run state next kept grown t s m l e = at-run_in t s (last_of next s) (last_of state s) m (last-holds window is next kept s l) (grown s).within e

  -- a unit's renewal from rows that are the run's inputs at lesser ticks, and for an instant unit at this tick, is the run at this tick
  pub renewal-run : (rows : ℕ → List Interval) (t s u p : ℕ) → s < length window.plant.streams → origin_of window.plant s ≡ port u p →
      ((q : ℕ) → q < t → inputs_of (unit_at window.plant u) (run_at window is q) ≡ rows q) →
      ((unit_at window.plant u).instant ≡ true → inputs_of (unit_at window.plant u) (run_at window is t) ≡ rows t) →
      renewed (on_bands window.plant) (unit_at window.plant u) p (window.carried u) rows t ≡ run_at window is t s
  renewal-run rows t s u p l e before here = sym (stream-renewed window.plant window.carried window.feeds u (window.carried u) rows
      (same-kept (on_bands window.plant)) is.ranked refl t s p l e before here)

  -- where the last versions are the run at lesser places, so are the inputs that come from them
  inputs-run : (state : Versions) (kept : KeepsRun window is state) (k : ℕ) → IsRunBelow window state k → (t u : ℕ) → t < window.ticks → u < length window.plant.units →
      ((r : ℕ) → Contains (unit_at window.plant u).reads r → place window.plant t r < k) →
      inputs_of (unit_at window.plant u) (run_at window is t) ≡ last_inputs window is state kept u t
  inputs-run state kept k below t u m v h = inputs-kept (same-kept (on_bands window.plant)) (unit_at window.plant u) (run_at window is t) (last_at window is state kept t)
      (λ r c. sym (below t r m (is.ranked.reads u r v c) (h r c)))

  -- and the renewal from them at the next place
  last-renewal_run : (state : Versions) (kept : KeepsRun window is state) (k : ℕ) → IsRunBelow window state k → (t s u p : ℕ) → t < window.ticks →
      s < length window.plant.streams → origin_of window.plant s ≡ port u p → place window.plant t s < suc k →
      renewed (on_bands window.plant) (unit_at window.plant u) p (window.carried u) (last_inputs window is state kept u) t ≡ run_at window is t s
  last-renewal_run state kept k below t s u p m l e h =
      let v : u < length window.plant.units = unit_there window.plant s u p is.ranked l e in
      renewal-run (last_inputs window is state kept u) t s u p l e
      (λ q i. inputs-run state kept k below q u (omega arith) v (λ r c. let g : place window.plant q r < place window.plant t s = earlier-place q t r s i in omega arith))
      (λ i. inputs-run state kept k below t u m v (λ r c.
      let g : rank_of window.plant r < rank_of window.plant s = read_below window.plant s u p r is.ranked v e i c in omega arith))

  -- the last version of a settled stream is the run there
  pub settled-run : (state : Versions) (kept : KeepsRun window is state) (k : ℕ) → IsRunBelow window state k → (t s u p : ℕ) → t < window.ticks →
      s < length window.plant.streams → origin_of window.plant s ≡ port u p → place window.plant t s < suc k → IsSettled window state s (origin_of window.plant s) →
      at (last_of state s) t ≡ run_at window is t s
  settled-run state kept k below t s u p m l e h settled = at-run t s (last_of state s) m (last-holds window is state kept s l)
      (subst (AllInside (at (last_of state s) t)) (last-renewal_run state kept k below t s u p m l e h) (settled-inside window is state kept t s u p m e settled))

  -- a feed's versions are the run
  pub feed-run : (state : Versions) → KeepsRun window is state → (t s f : ℕ) → t < window.ticks → s < length window.plant.streams →
      origin_of window.plant s ≡ feed f → at (last_of state s) t ≡ run_at window is t s
  feed-run state kept t s f m l e = at-run t s (last_of state s) m (last-holds window is state kept s l)
      (subst (AllInside (at (last_of state s) t)) (sym (run-fed (on_bands window.plant) window.plant window.carried window.feeds t s f e))
      (last-fed window is state kept t s f m l e))

  -- where the last versions are the run at all places, each stream is settled
  port-settled : (state : Versions) (kept : KeepsRun window is state) (k : ℕ) → IsRunBelow window state k → window.ticks * (window.plant.top + 1) ≤ k →
      (s u p : ℕ) → s < length window.plant.streams → origin_of window.plant s ≡ port u p → IsSettled window state s (port u p)
  port-settled state kept k below all s u p l e =
      let n : length (run_tube window s) ≡ length (last_of state s) = within-length _ _ (last-holds window is state kept s l) in
      let i : length (run_tube window s) ≡ window.ticks = length-tube_of (λ t. run_at window is t s) window.ticks in
      let j : length (renewal window u p (map (last_of state) (unit_at window.plant u).reads)) ≡ window.ticks = length-tube_of _ window.ticks in
      within-each (last_of state s) (renewal window u p (map (last_of state) (unit_at window.plant u).reads)) (omega arith) (λ t h.
      let m : t < window.ticks = omega arith in
      let g : place window.plant t s < window.ticks * (window.plant.top + 1) = place-all t s m in
      subst₂ AllInside (sym (below t s m l (omega arith)))
      (sym (renewal-at window is state kept u p t m ∙ last-renewal_run state kept k below t s u p m l e (omega arith))) (inside-itself (run_at window is t s)))

  -- whatever it comes from
  pub all-quiet : (state : Versions) → KeepsRun window is state → (k : ℕ) → IsRunBelow window state k → window.ticks * (window.plant.top + 1) ≤ k →
      IsQuiet window state
  all-quiet state kept k below all s l = elim (source (origin_of window.plant s)) [
    | from_feed f e ↦ subst (IsSettled window state s) (sym e) tt
    | from_port u p e ↦ subst (IsSettled window state s) (sym e) (port-settled state kept k below all s u p l e)
  ]
