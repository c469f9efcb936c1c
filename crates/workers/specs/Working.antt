-- Words of the proofs: a reader of the contracts needs none of them.
-- What a worker works with.
use Rattle.std.specs.Prelude.{◌<◌, ℕ, List, length, slice_index_or}
use Rattle.renewal.specs.Plan.{PlanOf}
use Rattle.stream_cell.specs.declared.passes.StreamCell.{StreamCell}
use Rattle.stream_cell.specs.Seats.{opening_of}
use Rattle.stream_cell.specs.Seats as seats
use Rattle.turn_desk.specs.declared.passes.TurnDesk.{TurnDesk}
use Rattle.turn_desk.specs.Passes as turns
use Rattle.worker.specs.declared.hand.Hand.{Hand}
use Rattle.worker.specs.Knowing.{IsHand}
use Rattle.worker.specs.Rooms.{IsRoom}
use Rattle.workers.specs.declared.relaxing.Bench.{Bench}

-- A worker's hand has a pass of each cell, its seat is one of the desk, and it has room for each unit.
pub record IsBench (plan : PlanOf) (cells : List StreamCell) (desk : TurnDesk) (worker : ℕ) (bench : Bench) : Type 0 where
  pub hand : IsHand opening_of seats.IsPassOf plan worker cells bench.hand.passes.items
  pub seat : turns.IsPassOf desk bench.seat
  pub room : IsRoom plan bench.room

-- one for each worker
pub record AreBenches (plan : PlanOf) (cells : List StreamCell) (desk : TurnDesk) (benches : List Bench) : Type 0 where
  pub each : (w : ℕ) (bench : Bench) → w < length benches → IsBench plan cells desk w (slice_index_or benches w bench)

-- what a worker holds of the cells
abbrev pub hand_of : Bench → Hand
hand_of bench = bench.hand

-- its seat is one of the desk, and there is room for each unit
pub record IsReady (plan : PlanOf) (desk : TurnDesk) (bench : Bench) : Type 0 where
  pub seat : turns.IsPassOf desk bench.seat
  pub room : IsRoom plan bench.room
