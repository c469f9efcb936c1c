-- A settled window: the tubes that its streams were narrowed to, and the rows of the steps that narrowed them.
use Rattle.std.specs.Prelude.{◌≡◌, ◌+◌, ◌-◌, ◌<◌, ◌≤◌, ℕ, List, [], length, map, slice_index_or}
use Rattle.std.specs.List.{range_with_len, AllByRecursion}
use Rattle.quant.specs.Interval.{Interval}
use Rattle.relaxation.specs.Tube.{Tube, at}
use Rattle.relaxation.specs.Window.{Window}
use Rattle.relaxation.specs.Core.{opening_versions, last_of, reached, AreLegal, AreNarrowing, IsQuiet}
use Rattle.parts.specs.Parts.{FileParts}
use Rattle.plant_streams.specs.Streams.{streams_of}
use Rattle.plant_streams.specs.Limits.{limits_at}
use Rattle.relax_core.specs.Board.{RowOf, BoardOf, step_in, rows_from}

pub record WindowOf : Type 0 where
  -- the first of its ticks among the plant's, and how many they are
  pub first : ℕ
  pub ticks : ℕ
  -- of each stream
  pub tubes : List Tube
  pub steps : List RowOf

-- the bands of a stream at a tick of the plant
abbrev pub bands_in : WindowOf → ℕ → ℕ → List Interval
bands_in window tick s = at (slice_index_or window.tubes s []) (tick - window.first)

-- the last version of each stream of a board, and its rows
abbrev pub window_on : BoardOf → WindowOf
window_on board = record {
  first = board.plan.first;
  ticks = board.plan.ticks;
  tubes = map (last_of board.versions) (range_with_len 0 (length board.versions));
  steps = board.rows;
}

-- The rows are a legal list of steps from the opening tubes, each of which narrows and has the number of the version that
-- it appends, and they leave the window quiet.
pub record Settles (window : Window) (rows : List RowOf) : Type 0 where
  pub legal : AreLegal window (opening_versions window) (map step_in rows)
  pub narrowing : AreNarrowing window (opening_versions window) (map step_in rows)
  pub numbered : rows ≡ rows_from window (opening_versions window) (map step_in rows)
  pub quiet : IsQuiet window (reached window (map step_in rows))

-- The ticks are the plant's, each stream has a tube of them with a band for each of its channels, and each row names a stream.
pub record IsWindow (parts : FileParts) (window : WindowOf) : Type 0 where
  pub inside : window.first + window.ticks ≤ parts.ticks
  pub streams : length window.tubes ≡ length (streams_of parts)
  pub ticked : (s : ℕ) → s < length (streams_of parts) → length (slice_index_or window.tubes s []) ≡ window.ticks
  pub channels : (s t : ℕ) → s < length (streams_of parts) → t < window.ticks →
      length (at (slice_index_or window.tubes s []) t) ≡ length (limits_at parts s)
  pub rows : AllByRecursion (λ row. row.stream < length (streams_of parts)) window.steps
