-- Induction along the places: the tick, and at one tick the rank.
use Rattle.std.proofs.Common.{◌≡◌, ℕ, zero, suc, ◌<◌, List, length, arith}
use Rattle.flowsheet.specs.Plant.{Plant, feed, port, unit_at, origin_of, IsRanked}
use Rattle.flowsheet.specs.Reading.{Reader, inputs_of, shown, stepped}
use Rattle.flowsheet.proofs.Ranks.{by_rank}
use Rattle.flowsheet.proofs.Readings.{IsKept, inputs-kept, shown-kept, stepped-kept}

-- in two tables of streams and states over n ticks openings and feeds are related, and outputs and steps where the units' are
pub record AreAlong {A B : Type 0} (read : Reader A) (other : Reader B) (R : List A → List B → Type 0) (plant : Plant) (n : ℕ)
    (x y : ℕ → ℕ → List A) (v w : ℕ → ℕ → List B) : Type 0 where
  pub opening : (u : ℕ) → u < length plant.units → R (y 0 u) (w 0 u)
  pub fed : (t s f : ℕ) → t < n → s < length plant.streams → origin_of plant s ≡ feed f → R (x t s) (v t s)
  pub outputs : (t s u p : ℕ) → t < n → s < length plant.streams → origin_of plant s ≡ port u p →
      R (shown read (unit_at plant u) p (y t u) (inputs_of (unit_at plant u) (x t)))
      (shown other (unit_at plant u) p (w t u) (inputs_of (unit_at plant u) (v t))) → R (x t s) (v t s)
  pub steps : (t u : ℕ) → suc t < n → u < length plant.units →
      R (stepped read (unit_at plant u) (y t u) (inputs_of (unit_at plant u) (x t)))
      (stepped other (unit_at plant u) (w t u) (inputs_of (unit_at plant u) (v t))) → R (y (suc t) u) (w (suc t) u)

module _ {A B : Type 0} {read : Reader A} {other : Reader B} {R : List A → List B → Type 0} {plant : Plant} {n : ℕ}
    {x y : ℕ → ℕ → List A} {v w : ℕ → ℕ → List B} where
  -- at a tick whose states are related, so are all streams
  streams-here : IsKept read other R → IsRanked plant → AreAlong read other R plant n x y v w → (t : ℕ) → t < n →
      ((u : ℕ) → u < length plant.units → R (y t u) (w t u)) → (s : ℕ) → s < length plant.streams → R (x t s) (v t s)
  streams-here kept ranked along t m states = by_rank plant (λ s. R (x t s) (v t s)) ranked
      (λ s f l e. along.fed t s f m l e)
      (λ s u p l k e before. along.outputs t s u p m l e
      (shown-kept kept (unit_at plant u) p _ _ _ _ (states u k) (λ i. inputs-kept kept (unit_at plant u) _ _ (before i))))

  -- so they are at each tick: the states
  pub states-along : IsKept read other R → IsRanked plant → AreAlong read other R plant n x y v w →
      (t u : ℕ) → t < n → u < length plant.units → R (y t u) (w t u)
  states-along kept ranked along zero u m l = along.opening u l
  states-along kept ranked along (suc t) u m l =
      let before : (i : ℕ) → i < length plant.units → R (y t i) (w t i) = λ i k. states-along kept ranked along t i (omega arith) k in
      along.steps t u m l (stepped-kept kept (unit_at plant u) _ _ _ _ (before u l) (inputs-kept kept (unit_at plant u) _ _
      (λ q c. streams-here kept ranked along t (omega arith) before q (ranked.reads u q l c))))

  -- and the streams
  pub streams-along : IsKept read other R → IsRanked plant → AreAlong read other R plant n x y v w →
      (t s : ℕ) → t < n → s < length plant.streams → R (x t s) (v t s)
  streams-along kept ranked along t s m l = streams-here kept ranked along t m (λ u k. states-along kept ranked along t u m k) s l
