-- The tubes that a renewal reads, and what it gives.
use Rattle.std.specs.Prelude.{◌≡◌, ℕ, ◌+◌, ◌<◌, List, [], ◌∷◌, length, map, replicate}
use Rattle.std.specs.List.{range_with_len}
use Rattle.flowsheet.specs.Plant.{PlantUnit, unit_at}
use Rattle.flowsheet.specs.Reading.{on_bands}
use Rattle.flowsheet.specs.Renewal.{renewed_states}
use Rattle.relaxation.specs.Tube.{Tube, IsWithin, tube_of}
use Rattle.relaxation.specs.Window.{row_of, renewal}
use Rattle.plant.specs.PlantOf.{plant_of}
use Rattle.renewal.specs.Plan.{PlanOf, window_of, carried_into}

-- the unit with this number
abbrev pub planned : PlanOf → ℕ → PlantUnit
planned plan u = unit_at (plant_of plan.parts) u

-- a tube for each stream that a unit reads, inside the tube that the stream opens with
abbrev pub AreOpened : PlanOf → List ℕ → List Tube → Type 0
AreOpened plan [] [] = Unit {0}
AreOpened plan [] (tube ∷ tubes) = ⊥
AreOpened plan (s ∷ streams) [] = ⊥
AreOpened plan (s ∷ streams) (tube ∷ tubes) = IsWithin tube ((window_of plan).opening s) × AreOpened plan streams tubes

-- what a unit's renewal gives: a tube for each of its outputs, and its states at each tick and at the end of the last
pub record RenewalOf : Type 0 where
  pub ports : List Tube
  pub states : Tube

abbrev pub renewal_of : PlanOf → ℕ → List Tube → RenewalOf
renewal_of plan u tubes = record {
  ports = map (λ p. renewal (window_of plan) u p tubes) (range_with_len 0 (length (planned plan u).view));
  states = tube_of (renewed_states (on_bands (plant_of plan.parts)) (planned plan u) (carried_into plan u)
      (row_of tubes)) (plan.ticks + 1);
}

-- room for it: as many ticks, and at each as many channels and states as the unit has limits for
pub record HasRoomFor (plan : PlanOf) (u : ℕ) (room : RenewalOf) : Type 0 where
  pub ports_shape : map (map length) room.ports
      ≡ map (λ limits. replicate plan.ticks (length limits)) (planned plan u).output_limits
  pub states_shape : map length room.states ≡ replicate (plan.ticks + 1) (length (planned plan u).state_limits)

-- tubes that have the same bands at the ticks below n
abbrev pub AreSameBelow : ℕ → List Tube → List Tube → Type 0
AreSameBelow n tubes others = (t : ℕ) → t < n → row_of tubes t ≡ row_of others t

-- it holds a renewal of the unit, from tubes that have the same bands as these at the ticks below n
pub record HoldsRenewal (plan : PlanOf) (u : ℕ) (tubes : List Tube) (n : ℕ) (room : RenewalOf) : Type 0 where
  pub before : List Tube
  pub renewed : room ≡ renewal_of plan u before
  pub same : AreSameBelow n before tubes
