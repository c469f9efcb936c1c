-- Passes of a desk.
use Rattle.std.specs.Prelude.{◌≡◌, ◌*◌, ◌<◌, false}
use Rattle.turn_desk.specs.declared.view.PassView.{PassView}
use Rattle.turn_desk.specs.declared.passes.TurnDesk.{TurnDesk}
use Rattle.turn_desk.specs.declared.passes.DeskPass.{DeskPass}

-- what the pass has drawn, and whether it has ended
abbrev pub pass_view : DeskPass → PassView
pass_view pass = pass.seat.me.0

-- It draws this desk's numbers, it remembers whether it has ended, and until then it counts as a pass.
abbrev pub IsPassOf : TurnDesk → DeskPass → Type 0
IsPassOf desk pass =
    (pass.seat.table_id ≡ desk.table.shared.table_id)
    × ((pass_view pass).limit ≡ 32 * desk.units)
    × (pass.ended ≡ (pass_view pass).ended)
    × (pass.ended ≡ false → 0 < (pass_view pass).passes)
