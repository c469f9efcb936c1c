-- The run of a plant, by recursion on places: the tick, and at one tick the rank. The interval run reads it on bands.
use Rattle.std.specs.Prelude.{ℕ, zero, suc, List, []}
use Rattle.flowsheet.specs.Plant.{Plant, Origin, feed, port, unit_at, origin_of}
use Rattle.flowsheet.specs.Reading.{Reader, inputs_of, shown, stepped}

module _ {A : Type 0} (read : Reader A) (plant : Plant) where
  -- a stream at one tick, by what it comes from: the feeds, or the states and the inputs of its unit
  abbrev pub from_origin : (ℕ → List A) → (ℕ → List A) → (ℕ → List A) → Origin → List A
  from_origin feeds states inputs (feed f) = feeds f
  from_origin feeds states inputs (port u p) = shown read (unit_at plant u) p (states u) (inputs u)

  -- The streams of rank below r at one tick, from the feeds and the states at this tick: the inputs of an instant unit are of lesser rank than it.
  abbrev pub streams_below : (ℕ → List A) → (ℕ → List A) → ℕ → ℕ → List A
  streams_below feeds states zero s = []
  streams_below feeds states (suc r) s = from_origin feeds states (λ u. inputs_of (unit_at plant u) (streams_below feeds states r)) (origin_of plant s)

  -- all streams at one tick
  abbrev pub streams_at : (ℕ → List A) → (ℕ → List A) → ℕ → List A
  streams_at feeds states = streams_below feeds states (suc plant.top)

  -- the states of each unit at a tick, from those carried into the first tick
  abbrev pub run_states : (ℕ → List A) → (ℕ → ℕ → List A) → ℕ → ℕ → List A
  run_states carried feeds zero u = carried u
  run_states carried feeds (suc t) u =
      stepped read (unit_at plant u) (run_states carried feeds t u) (inputs_of (unit_at plant u) (streams_at (feeds t) (run_states carried feeds t)))

  -- the streams at a tick
  abbrev pub run_streams : (ℕ → List A) → (ℕ → ℕ → List A) → ℕ → ℕ → List A
  run_streams carried feeds t = streams_at (feeds t) (run_states carried feeds t)
