-- Words of the proofs: a reader of the contracts needs none of them.
-- Room for the renewals of each unit of a plan, and the numbers of versions that are remembered.
use Rattle.std.specs.Prelude.{◌≡◌, ◌<◌, ◌^◌, ℕ, true, List, [], length, slice_index_or}
use Rattle.std.specs.Prelude.{Option, Some, None, IfSome}
use Rattle.relaxation.specs.Tube.{Tube, at}
use Rattle.relaxation.specs.Core.{Versions, versions_of, named, AreThere, IsLegal, is_idle}
use Rattle.plant_streams.specs.Streams.{streams_of}
use Rattle.plant_units.specs.Units.{units_of}
use Rattle.renewal.specs.Plan.{PlanOf, window_of}
use Rattle.renewal.specs.Room.{RenewalOf, planned, AreOpened, HasRoomFor, renewal_of}
use Rattle.relax_core.specs.Board.{BoardOf, IsBoard}
use Rattle.relax_core.specs.Order.{IsOrder}
use Rattle.relax_core.specs.declared.room.Room.{Room}

-- the unit may be renewed in it; where it was, the outputs are its renewal from the inputs
pub record IsRoomFor (plan : PlanOf) (u : ℕ) (room : Room) : Type 0 where
  pub inputs : AreOpened plan (planned plan u).reads room.inputs
  pub outputs : HasRoomFor plan u room.outputs
  pub renewed : IfSome room.renewed (λ _. room.outputs ≡ renewal_of plan u room.inputs)

abbrev pub no_room : Room
no_room = record { inputs = []; outputs = record { ports = []; states = [] }; renewed = None }

-- the room with these tubes read in
abbrev pub reads_in : Room → List Tube → Room
reads_in room tubes = record { inputs = tubes; outputs = room.outputs; renewed = room.renewed }

-- two tubes have the same bands at the ticks below n
abbrev pub AreSameTicks : ℕ → Tube → Tube → Type 0
AreSameTicks n A B = (t : ℕ) → t < n → at A t ≡ at B t

-- there is room for each unit
pub record HasRooms (plan : PlanOf) (rooms : List Room) : Type 0 where
  pub counted : length rooms ≡ length (units_of plan.parts)
  pub each : (u : ℕ) → u < length (units_of plan.parts) → IsRoomFor plan u (slice_index_or rooms u no_room)

-- nothing was renewed in it yet
pub record IsNewRoom (plan : PlanOf) (u : ℕ) (room : Room) : Type 0 where
  pub fits : IsRoomFor plan u room
  pub none : room.renewed ≡ None

pub record AreNewRooms (plan : PlanOf) (rooms : List Room) : Type 0 where
  pub counted : length rooms ≡ length (units_of plan.parts)
  pub each : (u : ℕ) → u < length (units_of plan.parts) → IsNewRoom plan u (slice_index_or rooms u no_room)

-- where numbers are remembered, the versions with them are there, and these outputs are the unit's renewal from them
abbrev pub IsRenewedFrom : PlanOf → Versions → ℕ → RenewalOf → Option (List ℕ) → Type 0
IsRenewedFrom plan state u outputs None = Unit {0}
IsRenewedFrom plan state u outputs (Some numbers) =
    AreThere state (planned plan u).reads numbers
    × (outputs ≡ renewal_of plan u (named state (planned plan u).reads numbers))

abbrev pub AreRenewed : PlanOf → Versions → List Room → Type 0
AreRenewed plan state rooms = (u : ℕ) → u < length (units_of plan.parts) →
    IsRenewedFrom plan state u (slice_index_or rooms u no_room).outputs (slice_index_or rooms u no_room).renewed

-- where numbers are remembered, the stream's step from the versions with them is legal and narrows nothing
abbrev pub IsMetFrom : PlanOf → Versions → ℕ → Option (List ℕ) → Type 0
IsMetFrom plan state s None = Unit {0}
IsMetFrom plan state s (Some numbers) =
    IsLegal (window_of plan) state (record { stream = s; inputs = numbers })
    × (is_idle (window_of plan) state (record { stream = s; inputs = numbers }) ≡ true)

abbrev pub AreMet : PlanOf → Versions → List (Option (List ℕ)) → Type 0
AreMet plan state met = (s : ℕ) → IsMetFrom plan state s (slice_index_or met s None)

-- What a board keeps: its steps, numbers of versions in 32 bits, room for the next steps, the last renewal of each
-- unit, the numbers that each stream was last met with, and the order of sweeps.
pub record IsKept (board : BoardOf) (made : List Room) (last : List (Option (List ℕ))) (turns : List ℕ) : Type 0 where
  pub steps : IsBoard board
  pub few : (s : ℕ) → length (versions_of board.versions s) < 2 ^ 32
  pub rooms : HasRooms board.plan made
  pub renewed : AreRenewed board.plan board.versions made
  pub counted : length last ≡ length (streams_of board.plan.parts)
  pub met : AreMet board.plan board.versions last
  pub order : IsOrder board.plan turns
