-- The renewal of one unit over a window, from rows of its inputs. No other unit is looked at.
use Rattle.std.specs.Prelude.{ℕ, zero, suc, List}
use Rattle.flowsheet.specs.Plant.{Plant, PlantUnit, Origin, feed, port, unit_at, origin_of}
use Rattle.flowsheet.specs.Reading.{Reader, inputs_of, shown, stepped}

module _ {A : Type 0} (read : Reader A) where
  -- a unit's states at a tick, from those carried into the first tick and the inputs at each tick
  abbrev pub renewed_states : PlantUnit → List A → (ℕ → List A) → ℕ → List A
  renewed_states unit carried rows zero = carried
  renewed_states unit carried rows (suc t) = stepped read unit (renewed_states unit carried rows t) (rows t)

  -- what it shows at an output at a tick
  abbrev pub renewed : PlantUnit → ℕ → List A → (ℕ → List A) → ℕ → List A
  renewed unit p carried rows t = shown read unit p (renewed_states unit carried rows t) (rows t)

  -- a stream's renewal at a tick, from the streams' tubes: that of its unit, and a feed's tube stays
  abbrev pub renewed_origin : Plant → (ℕ → List A) → (ℕ → ℕ → List A) → ℕ → ℕ → Origin → List A
  renewed_origin plant carried tubes t s (feed f) = tubes t s
  renewed_origin plant carried tubes t s (port u p) =
      renewed (unit_at plant u) p (carried u) (λ q. inputs_of (unit_at plant u) (tubes q)) t

  abbrev pub renewed_stream : Plant → (ℕ → List A) → (ℕ → ℕ → List A) → ℕ → ℕ → List A
  renewed_stream plant carried tubes t s = renewed_origin plant carried tubes t s (origin_of plant s)
