-- Words of the proofs: a reader of the contracts needs none of them.
-- A renewal that is made tick by tick.
use Rattle.std.specs.Prelude.{◌≡◌, ℕ, ◌<◌, ◌≤◌, List, [], ◌∷◌, length, take, drop, slice_index_or, slice_set}
use Rattle.quant.specs.Interval.{Interval}
use Rattle.flowsheet.specs.Reading.{on_bands}
use Rattle.flowsheet.specs.Renewal.{renewed, renewed_states}
use Rattle.relaxation.specs.Tube.{Tube, at}
use Rattle.relaxation.specs.Window.{row_of}
use Rattle.plant.specs.PlantOf.{plant_of}
use Rattle.renewal.specs.Plan.{PlanOf, carried_into}
use Rattle.renewal.specs.Room.{RenewalOf, HasRoomFor, planned}

-- the tubes with these bands at a tick, one tube after another
abbrev pub spread_at : ℕ → List Interval → List Tube → List Tube
spread_at t bands [] = []
spread_at t bands (tube ∷ tubes) =
    slice_set tube t (take (length (at tube t)) bands) ∷ spread_at t (drop (length (at tube t)) bands) tubes

-- there is such a tick in each tube, and a band for each of its channels there
abbrev pub AreFilled : ℕ → List Interval → List Tube → Type 0
AreFilled t bands [] = Prim.Unit {0}
AreFilled t bands (tube ∷ tubes) = (t < length tube) × (length (at tube t) ≤ length bands)
    × AreFilled t (drop (length (at tube t)) bands) tubes

abbrev pub port_in : RenewalOf → ℕ → Tube
port_in room p = slice_index_or room.ports p []

-- The outputs of a unit are renewed at the ticks below n, and its states up to n.
pub record IsRenewed (plan : PlanOf) (u : ℕ) (tubes : List Tube) (n : ℕ) (made : RenewalOf) : Type 0 where
  pub shape : HasRoomFor plan u made
  pub shown : (p t : ℕ) → p < length made.ports → t < n → at (port_in made p) t
      ≡ renewed (on_bands (plant_of plan.parts)) (planned plan u) p (carried_into plan u) (row_of tubes) t
  pub stepped : (t : ℕ) → t ≤ n → at made.states t
      ≡ renewed_states (on_bands (plant_of plan.parts)) (planned plan u) (carried_into plan u) (row_of tubes) t
