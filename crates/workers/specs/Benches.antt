-- Words of the proofs: a reader of the contracts needs none of them.
-- The cells of a window's streams, and the hands of the workers that share them.
use Rattle.std.specs.Prelude.{◌≡◌, ◌<◌, ℕ, List, length, slice_index_or}
use Rattle.plant_streams.specs.Streams.{streams_of}
use Rattle.renewal.specs.Plan.{PlanOf, window_of}
use Rattle.stream_cell.specs.declared.passes.StreamCell.{StreamCell}
use Rattle.stream_cell.specs.Seats.{IsPassOf, opening_of, passes_of}
use Rattle.worker.specs.declared.hand.Hand.{Hand}
use Rattle.worker.specs.Knowing.{IsHand}

-- There is a cell for each stream, opened with its opening tube and for as many passes as there are workers, and each worker holds a
-- pass of each, with its own number.
pub record AreShared (plan : PlanOf) (cells : List StreamCell) (hands : List Hand) : Type 0 where
  pub counted : length cells ≡ length (streams_of plan.parts)
  pub opened : (s : ℕ) (cell : StreamCell) → s < length cells → opening_of (slice_index_or cells s cell) ≡ (window_of plan).opening s
  pub passes : (s : ℕ) (cell : StreamCell) → s < length cells → passes_of (slice_index_or cells s cell) ≡ length hands
  pub each : (w : ℕ) (hand : Hand) → w < length hands →
      IsHand opening_of IsPassOf plan w cells (slice_index_or hands w hand).passes.items
