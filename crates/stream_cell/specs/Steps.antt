-- Words of the proofs: a reader of the contracts needs none of them.
-- What the steps of a pass need and leave.
use Rattle.std.specs.Prelude.{◌≡◌, ◌∷◌, ◌++◌, ℕ, [], List}
use Rattle.relaxation.specs.History.{Version, History}
use Rattle.stream_cell.specs.declared.head.CellMet.{CellMet}
use Rattle.stream_cell.specs.declared.view.PassView.{PassView}
use Rattle.stream_cell.specs.declared.view.Turn.TheVariants.{Read}
use Rattle.stream_cell.specs.declared.passes.StreamCell.{StreamCell}
use Rattle.stream_cell.specs.declared.passes.CellPass.{CellPass}
use Rattle.stream_cell.specs.Histories.{IsHistoryOf}
use Rattle.stream_cell.specs.Passes.{IsOf, made_of}
use Rattle.stream_cell.specs.Seats.{opening_of, passes_of}

-- the seat is of this cell, stands for this pass, which has seen a history and knows what it made in it, and has these values out with it
pub record IsAt (cell : StreamCell) (pass : CellPass) (v : PassView) (out : List (ℕ × History)) : Type 0 where
  pub table : pass.seat.table_id ≡ cell.table.shared.table_id
  pub me : pass.seat.me ≡ (v ∷ [], out)
  pub number : pass.number ≡ v.number
  pub passes : v.passes ≡ passes_of cell
  pub ordered : IsHistoryOf (opening_of cell) v.seen
  pub of : IsOf v.seen v

-- the pass has the turn and the history, and has read the whole of it
pub record IsRead (cell : StreamCell) (pass : CellPass) (v : PassView) : Type 0 where
  pub at : IsAt cell pass v ((0, v.seen) ∷ [])
  pub turn : v.turn ≡ Read

-- the version that was put behind those that the pass has read is its own, and what results is a history
pub record IsAppended (cell : StreamCell) (pass : CellPass) (v : PassView) (history : History) : Type 0 where
  pub at : IsAt cell pass v ((0, history) ∷ [])
  pub turn : v.turn ≡ Read
  pub last : (version : Version) × (history ≡ v.seen ++ version ∷ []) × (version.maker ≡ v.number)
  pub ordered : IsHistoryOf (opening_of cell) history

-- the same pass, once it has met the last version and counted what it appended
abbrev pub counting : PassView → CellMet → History → PassView
counting v met history = record {
  number = v.number;
  passes = v.passes;
  seen = history;
  made = v.made ++ made_of met;
  turn = Read;
  looks = v.looks;
  misses = v.misses;
}
