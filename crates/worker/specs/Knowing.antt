-- What a worker knows of the versions of each stream, by its passes.
use Rattle.std.specs.Prelude.{◌≡◌, ◌<◌, ◌+◌, ℕ, List, [], length, map, slice_index_or}
use Rattle.flowsheet.specs.Plant.{Origin, feed, port, origin_of}
use Rattle.relaxation.specs.Tube.{Tube}
use Rattle.relaxation.specs.Window.{Window}
use Rattle.relaxation.specs.History.{History, IsMadeFrom, numbered}
use Rattle.plant_streams.specs.Streams.{streams_of}
use Rattle.plant.specs.PlantOf.{plant_of}
use Rattle.renewal.specs.Plan.{PlanOf, window_of}
use Rattle.stream_cell.specs.declared.passes.CellPass.{CellPass}
use Rattle.stream_cell.specs.declared.view.PassView.{PassView}
use Rattle.stream_cell.specs.Histories.{IsHistoryOf}
use Rattle.stream_cell.specs.Passes.{IsOf, new_pass}
use Rattle.stream_cell.specs.Seats.{pass_view}

-- the histories that these passes have seen, stream by stream
abbrev pub seen_by : List CellPass → List History
seen_by passes = map (λ (pass : CellPass). (pass_view pass).seen) passes

abbrev pub view_of : List CellPass → ℕ → PassView
view_of passes s = slice_index_or (map pass_view passes) s (new_pass [] 0 0)

-- the version of a history behind this one was made from versions of these histories, by the unit that gives the stream
abbrev pub IsNextMade : Window → List History → History → Origin → ℕ → Type 0
IsNextMade window histories history (feed f) k = ⊥
IsNextMade window histories history (port u p) k =
    IsMadeFrom window histories u p (numbered history k) (numbered history (k + 1))

-- A worker has a pass with its number for each stream; each has seen a history that begins with the stream's opening tube, in which
-- what the worker made is what it noted; and each version that it made was made from versions that its passes have seen.
pub record IsKnown (plan : PlanOf) (worker : ℕ) (passes : List CellPass) : Type 0 where
  pub counted : length passes ≡ length (streams_of plan.parts)
  pub numbers : (s : ℕ) → s < length passes → (view_of passes s).number ≡ worker
  pub histories : (s : ℕ) → s < length passes → IsHistoryOf ((window_of plan).opening s) (view_of passes s).seen
  pub of : (s : ℕ) → s < length passes → IsOf (view_of passes s).seen (view_of passes s)
  pub made : (s k : ℕ) → s < length passes → k + 1 < length (view_of passes s).seen →
      (numbered (view_of passes s).seen (k + 1)).maker ≡ worker →
      IsNextMade (window_of plan) (seen_by passes) (view_of passes s).seen (origin_of (plant_of plan.parts) s) k

-- There is a cell for each stream, opened with the stream's opening tube, and a pass of each, by which the worker knows this.
pub record IsHand {C : Type 0} (opening : C → Tube) (is_pass : C → CellPass → Type 0) (plan : PlanOf) (worker : ℕ)
    (cells : List C) (passes : List CellPass) : Type 0 where
  pub cells_counted : length cells ≡ length (streams_of plan.parts)
  pub opened : (s : ℕ) (cell : C) → s < length cells → opening (slice_index_or cells s cell) ≡ (window_of plan).opening s
  pub each : (s : ℕ) (cell : C) (pass : CellPass) → s < length cells →
      is_pass (slice_index_or cells s cell) (slice_index_or passes s pass)
  pub known : IsKnown plan worker passes
