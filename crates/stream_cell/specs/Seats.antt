-- The seats of passes.
use Rattle.std.specs.Prelude.{◌≡◌, ◌<◌, ◌∷◌, ℕ, [], List, All, Contains, length, map}
use Rattle.relaxation.specs.Tube.{Tube}
use Rattle.relaxation.specs.History.{History, numbered}
use Rattle.stream_cell.specs.declared.view.PassView.{PassView}
use Rattle.stream_cell.specs.declared.view.Turn.TheVariants.{Free}
use Rattle.stream_cell.specs.declared.passes.StreamCell.{StreamCell}
use Rattle.stream_cell.specs.declared.passes.CellPass.{CellPass}
use Rattle.stream_cell.specs.Histories.{IsHistoryOf}
use Rattle.stream_cell.specs.Passes.{IsOf, new_pass}

-- the tube with which the cell was opened
abbrev pub opening_of : StreamCell → Tube
opening_of cell = cell.table.shared.key.tube

-- for how many passes it was opened
abbrev pub passes_of : StreamCell → ℕ
passes_of cell = cell.table.shared.key.passes

-- the pass that a seat stands for, where it stands for one
abbrev pub the_one : List PassView → PassView
the_one [] = new_pass [] 0 0
the_one (v ∷ vs) = v

-- what is known of a pass
abbrev pub pass_view : CellPass → PassView
pass_view pass = the_one pass.seat.me.0

-- It is a pass of this cell: its seat stands for it alone, it has the number that it tells, is one of as many as the cell has, and
-- does not have the turn; what it has seen is a history that begins with the opening tube, in which it knows what it made.
pub record IsPassOf (cell : StreamCell) (pass : CellPass) : Type 0 where
  pub table : pass.seat.table_id ≡ cell.table.shared.table_id
  pub me : pass.seat.me ≡ (pass_view pass ∷ [], [])
  pub number : pass.number ≡ (pass_view pass).number
  pub passes : (pass_view pass).passes ≡ passes_of cell
  pub free : (pass_view pass).turn ≡ Free
  pub ordered : IsHistoryOf (opening_of cell) (pass_view pass).seen
  pub of : IsOf (pass_view pass).seen (pass_view pass)

-- The history that a cell leaves: each of its passes is of it, and they made all its versions above 0.
pub record IsClosedBy (opening : Tube) (passes : List PassView) (history : History) : Type 0 where
  pub ordered : IsHistoryOf opening history
  pub each : All (IsOf history) passes
  pub makers : (k : ℕ) → 0 < k → k < length history
      → Contains (map (λ (v : PassView). v.number) passes) (numbered history k).maker
