-- What the desk gives a seat, and what it is told.
use Rattle.std.specs.Prelude.{◌≡◌, ℕ, ◌*◌, ◌<◌, ◌≤◌, Option, Some, None}
use Rattle.turn_desk.specs.Passes.{pass_view}
use Rattle.turn_desk.specs.Turns.{Draws}
use Rattle.steal_desk.specs.declared.seats.StealSeat.{StealSeat}
use Rattle.steal_desk.specs.Deques.{with_pushed}
use Rattle.steal_desk.specs.Seats.{KeepsDeques, KeepsRest, own_view}
use Rattle.steal_desk.specs.Taking.{TakesUnit}

-- The seat draws a number, and what it takes with this number is the unit; or there is no number left, and nothing is taken.
abbrev pub DrawsUnit : StealSeat → Option ℕ → StealSeat → Type 0
DrawsUnit old (Some unit) new =
    (number : ℕ) × Draws (32 * old.units) (pass_view old.pass) (Some number) (pass_view new.pass)
    × TakesUnit number old unit new × KeepsDeques old new
DrawsUnit old None new =
    Draws (32 * old.units) (pass_view old.pass) None (pass_view new.pass) × (new.own ≡ old.own) × (new.others ≡ old.others)

-- The seat pushes the unit where it has pushed less than 64 times for each unit; else nothing changes.
pub record TellsUnit (old : StealSeat) (unit : ℕ) (new : StealSeat) : Type 0 where
  pub room : old.pushed < 64 * old.units → (own_view new ≡ with_pushed (own_view old) unit) × (new.others ≡ old.others)
  pub full : 64 * old.units ≤ old.pushed → new ≡ old
  pub rest : KeepsRest old new
