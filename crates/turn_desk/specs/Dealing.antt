-- Words of the proofs: a reader of the contracts needs none of them.
-- The passes that a desk is opened with.
use Rattle.std.specs.Prelude.{◌≡◌, ℕ, false}
use Rattle.atomic_table.specs.Seated.{TableId}
use Rattle.turn_desk.specs.declared.view.PassView.{PassView}
use Rattle.turn_desk.specs.declared.passes.DeskPass.{DeskPass}
use Rattle.turn_desk.specs.Turns.{new_pass}
use Rattle.turn_desk.specs.Passes.{pass_view}

-- it may still become so many passes of a desk with this limit
abbrev pub MayBecome : ℕ → ℕ → PassView → Type 0
MayBecome limit n v = (v.limit ≡ limit) × (v.passes ≡ n)

-- a pass of the table with this name that has drawn nothing
abbrev pub IsFrom : TableId → ℕ → DeskPass → Type 0
IsFrom table limit pass = (pass.seat.table_id ≡ table) × (pass.ended ≡ false) × (pass_view pass ≡ new_pass limit)
