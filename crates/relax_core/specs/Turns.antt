-- Words of the proofs: a reader of the contracts needs none of them.
-- Words of the contracts of the private functions that settle a board: the turn of a stream, and a sweep.
use Rattle.std.specs.Prelude.{◌≡◌, ◌⊎◌, ◌≤◌, ℕ, Bool, true, false, List, [], map, take, Contains, count_by, ◌==◌}
use Rattle.std.specs.Prelude.{Result, Ok, Err}
use Rattle.flowsheet.specs.Plant.{Origin, feed, port, origin_of}
use Rattle.plant.specs.PlantOf.{plant_of}
use Rattle.relaxation.specs.Core.{Step, IsLegal, is_idle, AreLegal, narrowing, last_step, IsSettled}
use Rattle.relaxation.specs.Sweep.{ReadsNewest}
use Rattle.renewal.specs.Plan.{window_of}
use Rattle.relax_core.specs.Board.{BoardOf, after}
use Rattle.relax_core.specs.Settling.{after_steps}
use Rattle.relax_core.specs.Stepping.{Steps}
use Rattle.relax_core.specs.declared.board.Stepped.{Stepped}

-- the unit gives a stream of this origin
abbrev pub IsGivenBy : Origin → ℕ → Type 0
IsGivenBy (feed f) u = ⊥
IsGivenBy (port v p) u = v ≡ u

-- a step whose versions are there: as it says, or memory ran out and the board stays
abbrev pub StepsThere : {E : Type 0} → Result Stepped E → BoardOf → Step → BoardOf → Type 0
StepsThere (Ok stepped) old step new = Steps (Ok stepped) old step new
StepsThere (Err e) old step new = new ≡ old

-- The turn of a stream: a feed's does nothing; another makes the step from the last versions of what its unit reads.
abbrev pub TurnsFrom : {E : Type 0} → Result Bool E → BoardOf → ℕ → Origin → BoardOf → Type 0
TurnsFrom (Ok narrows) old s (feed f) new = (narrows ≡ false) × (new ≡ old)
TurnsFrom (Ok true) old s (port u p) new =
    IsLegal (window_of old.plan) old.versions (last_step (window_of old.plan) old.versions u s)
    × (is_idle (window_of old.plan) old.versions (last_step (window_of old.plan) old.versions u s) ≡ false)
    × (new ≡ after old (last_step (window_of old.plan) old.versions u s))
TurnsFrom (Ok false) old s (port u p) new =
    IsLegal (window_of old.plan) old.versions (last_step (window_of old.plan) old.versions u s)
    × (is_idle (window_of old.plan) old.versions (last_step (window_of old.plan) old.versions u s) ≡ true)
    × (new ≡ old)
TurnsFrom (Err e) old s from new = new ≡ old

abbrev pub Turns : {E : Type 0} → Result Bool E → BoardOf → ℕ → BoardOf → Type 0
Turns result old s new = TurnsFrom result old s (origin_of (plant_of old.plan.parts) s) new

-- These streams have had their turns in a sweep that began at a board.
pub record IsSweeping (start : BoardOf) (turned : List ℕ) (narrows : Bool) (board : BoardOf) : Type 0 where
  -- a step for each of them that a unit gives, those that narrowed nothing too
  pub steps : List Step
  pub legal : AreLegal (window_of start.plan) start.versions steps
  pub newest : (step : Step) → Contains steps step →
      ReadsNewest (window_of start.plan) start.versions step.inputs (origin_of (plant_of start.plan.parts) step.stream)
  pub few : (s : ℕ) → count_by (λ (step : Step). step.stream == s) steps ≤ count_by (λ r. r == s) turned
  pub covers : (s : ℕ) → Contains turned s → Contains (map (λ (step : Step). step.stream) steps) s
      ⊎ IsSettled (window_of start.plan) start.versions s (origin_of (plant_of start.plan.parts) s)
  pub leads : board ≡ after_steps start (narrowing (window_of start.plan) start.versions steps)
  pub none : narrows ≡ false → narrowing (window_of start.plan) start.versions steps ≡ []

-- A sweep over these streams tells whether one narrowed; where memory ran out the first of them have had their turns.
abbrev pub Sweeps : {E : Type 0} → Result Bool E → BoardOf → List ℕ → BoardOf → Type 0
Sweeps (Ok narrows) old order new = IsSweeping old order narrows new
Sweeps (Err e) old order new = (n : ℕ) × IsSweeping old (take n order) true new
