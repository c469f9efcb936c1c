-- Words of the proofs: a reader of the contracts needs none of them.
-- The parts of which a step on a board is made.
use Rattle.std.specs.Prelude.{◌≡◌, ◌+◌, ◌<◌, ◌^◌, ℕ, true, false, List, [], ◌∷◌, ◌++◌, length, slice_set}
use Rattle.std.specs.Prelude.{Result, Ok, Err, Option, Some, None}
use Rattle.std.specs.declared.alloc.AllocError.{AllocError}
use Rattle.flowsheet.specs.Plant.{port, origin_of}
use Rattle.relaxation.specs.Tube.{Tube, IsWithin, is_within, meet}
use Rattle.relaxation.specs.Core.{Versions, versions_of, version_at, last_of, AreThere}
use Rattle.plant_streams.specs.Streams.{streams_of}
use Rattle.plant_units.specs.Units.{units_of}
use Rattle.plant.specs.PlantOf.{plant_of}
use Rattle.renewal.specs.Plan.{PlanOf, window_of}
use Rattle.renewal.specs.Room.{planned}
use Rattle.relax_core.specs.Board.{RowOf, BoardOf}
use Rattle.relax_core.specs.Stepping.{IsFirstMissing}
use Rattle.relax_core.specs.declared.board.Stepped.{Stepped}
use Rattle.relax_core.specs.declared.board.Stepped.TheVariants as stepped
use Rattle.relax_core.specs.declared.board.StepFault.{StepFault}
use Rattle.relax_core.specs.declared.board.StepFault.TheVariants as fault

-- the stream is this output of the unit
pub record IsPortOf (plan : PlanOf) (s u p : ℕ) : Type 0 where
  pub stream : s < length (streams_of plan.parts)
  pub origin : origin_of (plant_of plan.parts) s ≡ port u p
  pub unit : u < length (units_of plan.parts)
  pub output : p < length (planned plan u).view

-- each version that is there lies in the tube that its stream opens with
abbrev pub AreVersionsWithin : PlanOf → Versions → Type 0
AreVersionsWithin plan state =
    (s k : ℕ) → k < length (versions_of state s) → IsWithin (version_at state s k) ((window_of plan).opening s)

-- all named versions are there, or this is the first that is not
abbrev pub FindsMissing : Option StepFault → Versions → List ℕ → List ℕ → Type 0
FindsMissing None state reads numbers = AreThere state reads numbers
FindsMissing (Some (fault.NoSuchVersion input wanted have)) state reads numbers =
    (board : BoardOf) → board.versions ≡ state → IsFirstMissing board reads numbers input wanted have
FindsMissing (Some fault.NoMemory) state reads numbers = ⊥

-- the meet of a stream's last version with this tube is appended, with a row, where it is narrower; or nothing is
abbrev pub Appends : Result Stepped AllocError → ℕ → Tube → List ℕ →
    Versions → List RowOf → Versions → List RowOf → Type 0
Appends (Ok (stepped.Narrowed number)) s tube numbers state rows more longer =
    (is_within (last_of state s) tube ≡ false) × (number ≡ length (versions_of state s)) × (number + 1 < 2 ^ 32)
    × (more ≡ slice_set state s (versions_of state s ++ meet (last_of state s) tube ∷ []))
    × (longer ≡ rows ++ record { stream = s; version = length (versions_of state s); refs = numbers } ∷ [])
Appends (Ok stepped.Same) s tube numbers state rows more longer =
    (is_within (last_of state s) tube ≡ true) × (more ≡ state) × (longer ≡ rows)
Appends (Err e) s tube numbers state rows more longer = (more ≡ state) × (longer ≡ rows)
