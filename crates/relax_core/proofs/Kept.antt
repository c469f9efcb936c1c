-- What a board keeps stays with a step, whose numbers the stream remembers, and with a renewal, which its room remembers.
use Rattle.std.proofs.Common.{◌≡◌, ◌∙◌, ◌<◌, ℕ, List, length, length-set, sym, subst, arith, Ok}
use Rattle.std.specs.Prelude.{Result, slice_set, Option, Some}
use Rattle.std.specs.declared.alloc.AllocError.{AllocError}
use Rattle.relaxation.specs.Tube.{Tube}
use Rattle.relaxation.specs.Core.{Versions, named, AreThere}
use Rattle.plant_units.specs.Units.{units_of}
use Rattle.plant.proofs.Lookups.{streams-counted}
use Rattle.renewal.specs.Room.{planned, renewal_of}
use Rattle.relax_core.specs.Board.{RowOf, BoardOf}
use Rattle.relax_core.specs.Making.{Appends}
use Rattle.relax_core.specs.Rooms.{IsRoomFor, IsRenewedFrom, IsKept}
use Rattle.relax_core.specs.declared.board.Stepped.{Stepped}
use Rattle.relax_core.specs.declared.room.Room.{Room}
use Rattle.relax_core.proofs.Boards.{board_of, board-kept}
use Rattle.relax_core.proofs.Remembered.{renewed-stays, met-stays, met-set}
use Rattle.relax_core.proofs.Rooms.{rooms-set, renewed-set}
use Rattle.relax_core.proofs.Steps.{MakesStep, appended-is, appended-few, appended-grown, appended-legal, appended-idle}

module _ (board : BoardOf) (rooms : List Room) (met : List (Option (List ℕ))) (order : List ℕ)
    (kept : IsKept board rooms met order) (s : ℕ) (numbers : List ℕ) (tube : Tube)
    (makes : MakesStep board (record { stream = s; inputs = numbers }) tube) where
  -- all, whatever is appended
  pub kept-step : (result : Result Stepped AllocError) (more : Versions) (longer : List RowOf) →
      Appends result s tube numbers board.versions board.rows more longer →
      IsKept (board_of board.plan more longer) rooms met order
  kept-step result more longer h =
      let grown = appended-grown board kept.steps s numbers tube makes result more longer h in
      record {
        steps = appended-is board kept.steps s numbers tube makes result more longer h;
        few = appended-few result s tube numbers board.versions more board.rows longer
            (omega (arith, (board-kept board kept.steps).counted, makes.legal.stream)) kept.few h;
        rooms = kept.rooms;
        renewed = renewed-stays board.versions more grown board.plan rooms kept.renewed;
        counted = kept.counted;
        met = met-stays board.versions more grown board.plan met kept.met;
        order = kept.order;
      }

  -- and the numbers, where memory did not run out
  pub kept-numbers : (made : Stepped) (more : Versions) (longer : List RowOf) →
      Appends (Ok made) s tube numbers board.versions board.rows more longer →
      IsKept (board_of board.plan more longer) rooms (slice_set met s (Some numbers)) order
  kept-numbers made more longer h =
      let next = kept-step (Ok made) more longer h in
      record {
        steps = next.steps;
        few = next.few;
        rooms = next.rooms;
        renewed = next.renewed;
        counted = length-set met s (Some numbers) ∙ next.counted;
        met = met-set board.plan more met s numbers
            (omega (arith, next.counted, streams-counted board.plan.parts, makes.legal.stream))
            (appended-legal board kept.steps s numbers tube makes made more longer h)
            (appended-idle board kept.steps s numbers tube makes made more longer h) next.met;
        order = next.order;
      }

-- A renewal of a unit from versions that are there is remembered in its room, and all else stays.
pub kept-renewed : (board : BoardOf) (rooms : List Room) (met : List (Option (List ℕ))) (order : List ℕ) →
    IsKept board rooms met order → (u : ℕ) → u < length (units_of board.plan.parts) → (numbers : List ℕ) →
    AreThere board.versions (planned board.plan u).reads numbers → (room : Room) → IsRoomFor board.plan u room →
    room.outputs ≡ renewal_of board.plan u (named board.versions (planned board.plan u).reads numbers) →
    room.renewed ≡ Some numbers → IsKept board (slice_set rooms u room) met order
kept-renewed board rooms met order kept u l numbers there room fits renewed memory = record {
  steps = kept.steps;
  few = kept.few;
  rooms = rooms-set board.plan u room rooms kept.rooms l fits;
  renewed = renewed-set board.plan board.versions u room rooms kept.rooms kept.renewed l
      (subst (IsRenewedFrom board.plan board.versions u room.outputs) (sym memory) (there, renewed));
  counted = kept.counted;
  met = kept.met;
  order = kept.order;
}
