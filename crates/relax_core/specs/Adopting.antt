-- Versions that were made elsewhere, which a board can adopt one after another.
use Rattle.std.specs.Prelude.{◌≡◌, ◌≤◌, ◌==◌, ℕ, List, map, count_by, Result, Ok, Err}
use Rattle.relaxation.specs.Tube.{Tube}
use Rattle.relaxation.specs.Core.{Step}
use Rattle.relaxation.specs.Gathered.{Made, CanAdopt, CanAdoptAll}
use Rattle.renewal.specs.Plan.{PlanOf, window_of}
use Rattle.relax_core.specs.Board.{RowOf, BoardOf, opened, after}
use Rattle.relax_core.specs.declared.board.Stepped.{Stepped}
use Rattle.relax_core.specs.declared.board.Stepped.TheVariants.{Narrowed}

-- version `number` of a stream, made from the version before it and the versions `refs` of what is read, in port order
pub record MadeOf : Type 0 where
  pub stream : ℕ
  pub number : ℕ
  pub stamp : ℕ
  pub refs : List ℕ
  pub tube : Tube

abbrev pub made_step : MadeOf → Step
made_step made = record { stream = made.stream; inputs = made.refs }

abbrev pub made_row : MadeOf → RowOf
made_row made = record { stream = made.stream; version = made.number; refs = made.refs }

-- the same as a version of its stream's history, whose maker nobody asks for
abbrev pub made_version : MadeOf → Made
made_version made = record {
  stream = made.stream;
  version = record { number = made.number; maker = 0; stamp = made.stamp; refs = made.refs; tube = made.tube };
}

-- how many of them are of a stream
abbrev pub made_of : List MadeOf → ℕ → ℕ
made_of made s = count_by (λ (one : MadeOf). one.stream == s) made

-- Each can be adopted in its turn on the board with which a plan opens, and of no stream there are more than 32.
pub record AreAdoptable (plan : PlanOf) (made : List MadeOf) : Type 0 where
  pub adopted : CanAdoptAll (window_of plan) (opened plan) (map made_version made)
  pub few : (s : ℕ) → made_of made s ≤ 32

-- the version can be adopted on the board as it is
abbrev pub IsAdoptable : BoardOf → MadeOf → Type 0
IsAdoptable board made = CanAdopt (window_of board.plan) board.versions (made_version made)

-- the version is adopted by its step; or memory ran out, and the board stays
abbrev pub Adopts : {E : Type 0} → Result Stepped E → BoardOf → MadeOf → BoardOf → Type 0
Adopts (Ok stepped) old made new = (stepped ≡ Narrowed made.number) × (new ≡ after old (made_step made))
Adopts (Err e) old made new = new ≡ old
