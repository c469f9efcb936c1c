-- The trace: a header, and for each window one row for each step that narrowed.
use Rattle.std.specs.Prelude.{ℕ, zero, suc, ◌+◌, ◌++◌, List, [], ◌∷◌, map, slice_index_or}
use Rattle.relaxation.specs.Window.{Window}
use Rattle.parts.specs.Parts.{FileParts}
use Rattle.plant_streams.specs.Streams.{streams_of}
use Rattle.tables.specs.Steps.{trace_header, step_row}
use Rattle.relax_core.specs.Board.{RowOf}
use Rattle.relax_core.specs.Settled.{Settles}

-- the names under which the streams are printed
abbrev pub names_of : FileParts → List (List ℕ)
names_of parts = map (λ stream. stream.name) (streams_of parts)

-- the rows of a window's steps from number i on
abbrev pub steps_from : List (List ℕ) → ℕ → ℕ → List RowOf → List ℕ
steps_from names index i [] = []
steps_from names index i (row ∷ rest) =
    step_row index i (slice_index_or names row.stream []) row.version row.refs ++ steps_from names index (i + 1) rest

-- the rows of the window with this number, its steps numbered from 0
abbrev pub trace_rows : List (List ℕ) → ℕ → List RowOf → List ℕ
trace_rows names index rows = steps_from names index 0 rows

-- A legal trace of the first windows: the header, and then for each window in turn the rows of some steps that settle it.
pub data IsTrace (names : List (List ℕ)) (window : ℕ → Window) : ℕ → List ℕ → Type 0 where
  opening : IsTrace names window zero trace_header
  next : (k : ℕ) (text : List ℕ) (rows : List RowOf) → IsTrace names window k text → Settles (window k) rows →
      IsTrace names window (suc k) (text ++ trace_rows names k rows)
