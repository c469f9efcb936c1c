-- What a step on a board answers, and what it leaves.
use Rattle.std.specs.Prelude.{◌≡◌, ◌<◌, ◌≤◌, ℕ, true, false, List, [], length, slice_index, Result, Ok, Err}
use Rattle.flowsheet.specs.Plant.{Origin, feed, port, unit_at, origin_of}
use Rattle.relaxation.specs.Core.{Step, versions_of, is_idle, IsLegal}
use Rattle.plant.specs.PlantOf.{plant_of}
use Rattle.renewal.specs.Plan.{PlanOf, window_of}
use Rattle.relax_core.specs.Board.{BoardOf, after}
use Rattle.relax_core.specs.declared.board.Stepped.{Stepped}
use Rattle.relax_core.specs.declared.board.Stepped.TheVariants as stepped
use Rattle.relax_core.specs.declared.board.StepFault.{StepFault}
use Rattle.relax_core.specs.declared.board.StepFault.TheVariants as fault

-- the streams that the unit reads that gives this one; a feed comes from no unit
abbrev pub reads_from : PlanOf → Origin → List ℕ
reads_from plan (feed f) = []
reads_from plan (port u p) = (unit_at (plant_of plan.parts) u).reads

abbrev pub reads_for : PlanOf → ℕ → List ℕ
reads_for plan s = reads_from plan (origin_of (plant_of plan.parts) s)

-- a unit gives the stream
abbrev pub IsOutputOf : Origin → Type 0
IsOutputOf (feed f) = ⊥
IsOutputOf (port u p) = Unit {0}

-- how many versions of the stream that is read at an input port are there
abbrev pub there : BoardOf → List ℕ → ℕ → ℕ
there board reads k = length (versions_of board.versions (slice_index reads k))

-- the first input port at which the named version is not there: the number that was wanted, and how many there are
pub record IsFirstMissing (board : BoardOf) (reads numbers : List ℕ) (k wanted have : ℕ) : Type 0 where
  pub inside : k < length numbers
  pub names : wanted ≡ slice_index numbers k
  pub counts : have ≡ there board reads k
  pub missing : have ≤ wanted
  pub first : (j : ℕ) → j < k → slice_index numbers j < there board reads j

-- A step on a board: it narrows its stream and has a row, or narrows nothing and leaves the board; where a version that it
-- names is not there, or memory ran out, the board stays.
abbrev pub Steps : Result Stepped StepFault → BoardOf → Step → BoardOf → Type 0
Steps (Ok (stepped.Narrowed number)) old step new =
    IsLegal (window_of old.plan) old.versions step × (is_idle (window_of old.plan) old.versions step ≡ false)
    × (number ≡ length (versions_of old.versions step.stream)) × (new ≡ after old step)
Steps (Ok stepped.Same) old step new =
    IsLegal (window_of old.plan) old.versions step × (is_idle (window_of old.plan) old.versions step ≡ true) × (new ≡ old)
Steps (Err (fault.NoSuchVersion input wanted have)) old step new =
    IsFirstMissing old (reads_for old.plan step.stream) step.inputs input wanted have × (new ≡ old)
Steps (Err fault.NoMemory) old step new = new ≡ old
