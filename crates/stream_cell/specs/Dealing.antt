-- Words of the proofs: a reader of the contracts needs none of them.
-- The passes that a cell is opened with.
use Rattle.std.specs.Prelude.{◌≡◌, ◌∷◌, []}
use Rattle.atomic_table.specs.Seated.{TableId}
use Rattle.stream_cell.specs.declared.passes.CellPass.{CellPass}
use Rattle.stream_cell.specs.declared.view.Opening.{Opening}
use Rattle.stream_cell.specs.Passes.{new_pass}
use Rattle.stream_cell.specs.Seats.{pass_view}

-- a seat of the table with this name that stands for this pass alone, and has nothing out with it
pub record IsAlone (name : TableId) (pass : CellPass) : Type 0 where
  pub table : pass.seat.table_id ≡ name
  pub me : pass.seat.me ≡ (pass_view pass ∷ [], [])

-- a pass of the table with this name that has seen the opening tube alone
pub record IsDealt (name : TableId) (about : Opening) (pass : CellPass) : Type 0 where
  pub alone : IsAlone name pass
  pub fresh : pass_view pass ≡ new_pass about.tube about.passes pass.number
