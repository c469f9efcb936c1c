-- A board goes on by steps that narrow.
use Rattle.std.specs.Prelude.{◌≡◌, ◌≤◌, ◌==◌, ◌++◌, ℕ, List, count_by}
use Rattle.relaxation.specs.Core.{Step, replay, AreLegal, AreNarrowing}
use Rattle.renewal.specs.Plan.{window_of}
use Rattle.relax_core.specs.Board.{RowOf, BoardOf, rows_from}

-- the board after these steps, each of which narrows
abbrev pub after_steps : BoardOf → List Step → BoardOf
after_steps board steps = record {
  plan = board.plan;
  versions = replay (window_of board.plan) board.versions steps;
  rows = board.rows ++ rows_from (window_of board.plan) board.versions steps;
}

-- The plan is the same, and some steps, legal and narrowing from the old versions, lead to the new board.
pub record GoesOn (old new : BoardOf) : Type 0 where
  pub steps : List Step
  pub legal : AreLegal (window_of old.plan) old.versions steps
  pub narrowing : AreNarrowing (window_of old.plan) old.versions steps
  pub leads : new ≡ after_steps old steps

-- The rows begin with these, and of each stream at most so many follow them.
pub record BeginWith (first : List RowOf) (most : ℕ) (rows : List RowOf) : Type 0 where
  pub more : List RowOf
  pub begin : rows ≡ first ++ more
  pub few : (s : ℕ) → count_by (λ (row : RowOf). row.stream == s) more ≤ most
