-- The run from a tick of the run is its rest.
use Rattle.std.proofs.Common.{◌≡◌, ℕ, zero, suc, ◌+◌, List, refl, ap}
use Rattle.std.proofs.Math.Nat.{add-zero, add-suc}
use Rattle.flowsheet.specs.Plant.{Plant, unit_at}
use Rattle.flowsheet.specs.Reading.{Reader, inputs_of, stepped}
use Rattle.flowsheet.specs.Run.{streams_at, run_states, run_streams}

module _ {A : Type 0} (read : Reader A) (plant : Plant) where
  -- all states at the next tick, from those at this one
  next_states : (ℕ → List A) → (ℕ → List A) → ℕ → List A
  next_states feeds states u = stepped read (unit_at plant u) (states u) (inputs_of (unit_at plant u) (streams_at read plant feeds states))

  -- the run from a tick goes on with its states
  pub joined_states : (carried : ℕ → List A) (feeds : ℕ → ℕ → List A) (k t : ℕ) →
      run_states read plant (run_states read plant carried feeds k) (λ q. feeds (k + q)) t ≡ run_states read plant carried feeds (k + t)
  unfolding next_states
  joined_states carried feeds k zero = rw add-zero refl
  joined_states carried feeds k (suc t) = rw add-suc (ap (next_states (feeds (k + t))) (joined_states carried feeds k t))

  -- and with its streams
  pub joined_streams : (carried : ℕ → List A) (feeds : ℕ → ℕ → List A) (k t : ℕ) →
      run_streams read plant (run_states read plant carried feeds k) (λ q. feeds (k + q)) t ≡ run_streams read plant carried feeds (k + t)
  joined_streams carried feeds k t = ap (streams_at read plant (feeds (k + t))) (joined_states carried feeds k t)
