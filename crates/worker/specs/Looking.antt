-- Words of the proofs: a reader of the contracts needs none of them.
-- What one turn of a worker has seen, and the room that it has.
use Rattle.std.specs.Prelude.{◌≡◌, ◌<◌, ◌≤◌, ℕ, List, [], ◌∷◌, length, slice_index_or}
use Rattle.flowsheet.specs.Plant.{port, origin_of}
use Rattle.relaxation.specs.Tube.{Tube}
use Rattle.relaxation.specs.Window.{renewal}
use Rattle.relaxation.specs.History.{History, history_of, numbered}
use Rattle.plant_units.specs.Units.{units_of}
use Rattle.plant.specs.PlantOf.{plant_of}
use Rattle.tubes.specs.Shape.{HasShapeOf}
use Rattle.renewal.specs.Plan.{PlanOf, window_of}
use Rattle.renewal.specs.Room.{AreOpened, HasRoomFor, RenewalOf, planned, renewal_of}
use Rattle.stream_cell.specs.declared.head.Uses.{Uses}
use Rattle.stream_cell.specs.declared.head.Look.{Look}
use Rattle.stream_cell.specs.declared.head.Look.TheVariants.{Busy, Seen}
use Rattle.worker.specs.declared.room.UnitRoom.{UnitRoom}
use Rattle.worker.specs.declared.room.Room.{Room}

-- the version with this number is there, with this stamp at most and this tube
pub record IsSeen (history : History) (number most_stamp : ℕ) (tube : Tube) : Type 0 where
  pub there : number < length history
  pub stamp : (numbered history number).stamp ≤ most_stamp
  pub tube_is : tube ≡ (numbered history number).tube

-- what a look answered, of the history that its pass has seen now
abbrev pub Shows : Look → History → Tube → Tube → Type 0
Shows Busy history before now = now ≡ before
Shows (Seen number stamp) history before now = IsSeen history number stamp now

-- the versions with these numbers of what a unit reads are there, with these stamps at most and these tubes
abbrev pub AreSeen : List History → ℕ → List ℕ → List ℕ → List Tube → Type 0
AreSeen histories stamp [] [] [] = Unit {0}
AreSeen histories stamp [] [] (tube ∷ tubes) = ⊥
AreSeen histories stamp [] (k ∷ numbers) tubes = ⊥
AreSeen histories stamp (s ∷ streams) [] tubes = ⊥
AreSeen histories stamp (s ∷ streams) (k ∷ numbers) [] = ⊥
AreSeen histories stamp (s ∷ streams) (k ∷ numbers) (tube ∷ tubes) =
    IsSeen (history_of histories s) k stamp tube × AreSeen histories stamp streams numbers tubes

-- it is a unit's renewal from the versions that are used, which are there
pub record IsRenewedFrom (plan : PlanOf) (histories : List History) (u : ℕ) (uses : Uses) (outputs : RenewalOf) : Type 0 where
  pub tubes : List Tube
  pub seen : AreSeen histories uses.base (planned plan u).reads uses.refs tubes
  pub renewed : outputs ≡ renewal_of plan u tubes

-- it is the renewal of a stream from the versions that are used, which are there
pub record IsMadeOf (plan : PlanOf) (histories : List History) (s : ℕ) (uses : Uses) (made : Tube) : Type 0 where
  pub unit : ℕ
  pub output : ℕ
  pub tubes : List Tube
  pub origin : origin_of (plant_of plan.parts) s ≡ port unit output
  pub seen : AreSeen histories uses.base (planned plan unit).reads uses.refs tubes
  pub renewed : made ≡ renewal (window_of plan) unit output tubes
  pub shape : HasShapeOf ((window_of plan).opening s) made
