-- Streams are right above their rank: the streams at one tick are what the plant's equations say.
use Rattle.std.proofs.Common.{◌≡◌, ℕ, zero, suc, ◌≤◌, ◌<◌, List, length, refl, sym, ap, ◌∙◌, arith}
use Rattle.flowsheet.specs.Plant.{Plant, Origin, feed, port, unit_at, origin_of, rank_of, IsRanked}
use Rattle.flowsheet.specs.Reading.{Reader, inputs_of, shown}
use Rattle.flowsheet.specs.Run.{from_origin, streams_below, run_states, run_streams}
use Rattle.flowsheet.proofs.Ranks.{by_rank, read_below, rank_top}
use Rattle.flowsheet.proofs.Readings.{same-kept, inputs-kept, shown-kept}

module _ {A : Type 0} (read : Reader A) (plant : Plant) (feeds states : ℕ → List A) where
  -- a stream is what its origin gives from the streams of lesser rank
  at-origin : (r s : ℕ) (o : Origin) → origin_of plant s ≡ o → streams_below read plant feeds states (suc r) s
      ≡ from_origin read plant feeds states (λ u. inputs_of (unit_at plant u) (streams_below read plant feeds states r)) o
  at-origin r s o e = ap (from_origin read plant feeds states (λ u. inputs_of (unit_at plant u) (streams_below read plant feeds states r))) e

  -- the stream is the same among the streams below each rank above its own
  abbrev Settles : ℕ → Type 0
  Settles s = (r k : ℕ) → rank_of plant s < r → rank_of plant s < k →
      streams_below read plant feeds states r s ≡ streams_below read plant feeds states k s

  -- it is enough to see this at ranks from its own on, each made greater by 1
  settles_above : (s : ℕ) → ((r k : ℕ) → rank_of plant s ≤ r → rank_of plant s ≤ k →
      streams_below read plant feeds states (suc r) s ≡ streams_below read plant feeds states (suc k) s) → Settles s
  settles_above s g zero k h m = absurd (omega arith)
  settles_above s g (suc r) zero h m = absurd (omega arith)
  settles_above s g (suc r) (suc k) h m = g r k (omega arith) (omega arith)

  -- each stream is
  settles : IsRanked plant → (s : ℕ) → s < length plant.streams → Settles s
  settles ranked = by_rank plant Settles ranked
      (λ s f l e. settles_above s (λ r k h m. at-origin r s (feed f) e ∙ sym (at-origin k s (feed f) e)))
      (λ s u p l v e before. settles_above s (λ r k h m. at-origin r s (port u p) e ∙ (
      shown-kept (same-kept read) (unit_at plant u) p _ _ _ _ refl (λ i. inputs-kept (same-kept read) (unit_at plant u) _ _ (λ q c.
      let b : rank_of plant q < rank_of plant s = read_below plant s u p q ranked v e i c in before i q c r k (omega arith) (omega arith)))
      ∙ sym (at-origin k s (port u p) e))))

module _ {A : Type 0} (read : Reader A) (plant : Plant) (carried : ℕ → List A) (feeds : ℕ → ℕ → List A) where
  -- a stream of the run that comes from a feed is that feed
  pub run-fed : (t s f : ℕ) → origin_of plant s ≡ feed f → run_streams read plant carried feeds t s ≡ feeds t f
  run-fed t s f e = at-origin read plant (feeds t) (run_states read plant carried feeds t) plant.top s (feed f) e

  -- one that comes from a unit is what this shows, from its states and the streams of the run at this tick
  pub run-shown : IsRanked plant → (t s u p : ℕ) → s < length plant.streams → origin_of plant s ≡ port u p → run_streams read plant carried feeds t s
      ≡ shown read (unit_at plant u) p (run_states read plant carried feeds t u) (inputs_of (unit_at plant u) (run_streams read plant carried feeds t))
  run-shown ranked t s u p l e =
      let h : rank_of plant s ≤ plant.top = rank_top plant s ranked in
      settles read plant (feeds t) (run_states read plant carried feeds t) ranked s l (suc plant.top) (suc (suc plant.top)) (omega arith) (omega arith)
      ∙ at-origin read plant (feeds t) (run_states read plant carried feeds t) (suc plant.top) s (port u p) e
