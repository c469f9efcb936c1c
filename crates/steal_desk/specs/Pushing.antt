-- What a push on a seat's own deque does.
use Rattle.std.specs.Prelude.{◌≡◌, ℕ, ◌*◌, ◌<◌, Result, Ok, Err}
use Rattle.steal_desk.specs.declared.pushes.DeskFull.{DeskFull}
use Rattle.steal_desk.specs.declared.seats.StealSeat.{StealSeat}
use Rattle.steal_desk.specs.Deques.{with_pushed}
use Rattle.steal_desk.specs.Seats.{own_view}

-- The unit joins what was pushed, where that is less than 64 pushes for each unit of the desk; or nothing changes.
abbrev pub PushesUnit : StealSeat → ℕ → Result (Unit {0}) DeskFull → StealSeat → Type 0
PushesUnit old unit (Ok _) new =
    (old.pushed < 64 * old.units) × (own_view new ≡ with_pushed (own_view old) unit) × (new.others ≡ old.others)
PushesUnit old unit (Err full) new =
    (old.pushed ≡ 64 * old.units) × (full ≡ record { unit = unit; pushed = old.pushed }) × (new ≡ old)
