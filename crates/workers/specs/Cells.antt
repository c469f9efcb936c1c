-- Words of the proofs: a reader of the contracts needs none of them.
-- Cells and the hands that share them, while the cells are opened and while they are closed.
use Rattle.std.specs.Prelude.{◌≡◌, ◌<◌, ◌+◌, ◌++◌, ◌∷◌, ℕ, [], List, length, map, slice_index_or}
use Rattle.relaxation.specs.Tube.{Tube}
use Rattle.relaxation.specs.History.{History, history_of}
use Rattle.renewal.specs.Plan.{PlanOf, window_of}
use Rattle.stream_cell.specs.declared.passes.StreamCell.{StreamCell}
use Rattle.stream_cell.specs.declared.passes.CellPass.{CellPass}
use Rattle.stream_cell.specs.declared.view.PassView.{PassView}
use Rattle.stream_cell.specs.Passes.{new_pass}
use Rattle.stream_cell.specs.Seats.{IsClosedBy, IsPassOf, opening_of, pass_view, passes_of}
use Rattle.worker.specs.declared.hand.Hand.{Hand}
use Rattle.worker.specs.Knowing.{view_of}

-- the passes that a worker holds
abbrev pub held_by : Hand → List CellPass
held_by hand = hand.passes.items

-- no pass
abbrev pub HoldsNone : Hand → Type 0
HoldsNone hand = held_by hand ≡ []

-- a pass at least
abbrev pub HoldsSome : Hand → Type 0
HoldsSome hand = 0 < length (held_by hand)

-- what the workers know of a stream, by their passes of it
abbrev pub views_of : List Hand → ℕ → List PassView
views_of hands s = map (λ (passes : List CellPass). view_of passes s) (map held_by hands)

-- each hand has one of the passes behind those that it had
pub record HaveOneMore (before : List Hand) (passes : List CellPass) (after : List Hand) : Type 0 where
  pub counted : length after ≡ length before
  pub paired : length passes ≡ length before
  pub each : (w : ℕ) (hand : Hand) (pass : CellPass) → w < length before →
      held_by (slice_index_or after w hand) ≡ held_by (slice_index_or before w hand) ++ slice_index_or passes w pass ∷ []

-- the pass with this number among so many of a cell, by which the opening tube alone was seen
pub record IsNew (cell : StreamCell) (opening : Tube) (workers w : ℕ) (pass : CellPass) : Type 0 where
  pub of : IsPassOf cell pass
  pub view : pass_view pass ≡ new_pass opening workers w

-- The cell of a stream is opened for as many passes as there are hands, and each hand has got one of them, with its own number.
pub record IsOpenedFor (plan : PlanOf) (s : ℕ) (before after : List Hand) (cell : StreamCell) : Type 0 where
  pub opened : opening_of cell ≡ (window_of plan).opening s
  pub counted : passes_of cell ≡ length before
  pub passes : List CellPass
  pub new : (w : ℕ) (pass : CellPass) → w < length before →
      IsNew cell ((window_of plan).opening s) (length before) w (slice_index_or passes w pass)
  pub more : HaveOneMore before passes after

-- The cells of the first streams are open, and each of the workers holds a new pass of each, with its own number.
pub record AreOpen (plan : PlanOf) (workers : ℕ) (cells : List StreamCell) (hands : List Hand) : Type 0 where
  pub counted : length hands ≡ workers
  pub opened : (s : ℕ) (cell : StreamCell) → s < length cells → opening_of (slice_index_or cells s cell) ≡ (window_of plan).opening s
  pub passes : (s : ℕ) (cell : StreamCell) → s < length cells → passes_of (slice_index_or cells s cell) ≡ workers
  pub held : (w : ℕ) (hand : Hand) → w < length hands → length (held_by (slice_index_or hands w hand)) ≡ length cells
  pub new : (w s : ℕ) (hand : Hand) (cell : StreamCell) (pass : CellPass) → w < length hands → s < length cells →
      IsNew (slice_index_or cells s cell) ((window_of plan).opening s) workers w
      (slice_index_or (held_by (slice_index_or hands w hand)) s pass)

-- each hand holds a pass of each cell, and the cells have no others
pub record HoldAll (cells : List StreamCell) (hands : List Hand) : Type 0 where
  pub counted : (s : ℕ) (cell : StreamCell) → s < length cells → passes_of (slice_index_or cells s cell) ≡ length hands
  pub held : (w : ℕ) (hand : Hand) → w < length hands → length (held_by (slice_index_or hands w hand)) ≡ length cells
  pub each : (w s : ℕ) (hand : Hand) (cell : StreamCell) (pass : CellPass) → w < length hands → s < length cells →
      IsPassOf (slice_index_or cells s cell) (slice_index_or (held_by (slice_index_or hands w hand)) s pass)

-- a list with which another begins
abbrev pub IsFront : {A : Type 0} → List A → List A → Type 0
IsFront {A} front whole = (rest : List A) × (whole ≡ front ++ rest)

-- the first of the cells, and what each hand holds of them
pub record AreLeft (cells : List StreamCell) (hands : List Hand) (left : List StreamCell) (holding : List Hand) : Type 0 where
  pub first : IsFront left cells
  pub counted : length holding ≡ length hands
  pub held : (w : ℕ) (hand : Hand) → w < length hands → length (held_by (slice_index_or holding w hand)) ≡ length left
  pub each : (w : ℕ) (hand : Hand) → w < length hands →
      IsFront (held_by (slice_index_or holding w hand)) (held_by (slice_index_or hands w hand))

-- the histories that the cells from this one on leave to the passes of all hands
pub record AreClosed (cells : List StreamCell) (hands : List Hand) (first : ℕ) (histories : List History) : Type 0 where
  pub counted : first + length histories ≡ length cells
  pub each : (s : ℕ) (cell : StreamCell) → s < length histories →
      IsClosedBy (opening_of (slice_index_or cells (first + s) cell)) (views_of hands (first + s)) (history_of histories s)
