-- The trace of a relaxation: a header, and one row for each step that narrowed a stream.
use Rattle.std.specs.Prelude.{ℕ, List, [], ◌∷◌, ◌++◌, codes, decimal}
use Rattle.tables.specs.Line.{line}

unfoldable pub trace_header : List ℕ
trace_header = codes "window,step,stream,version,inputs\n"

-- numbers with a space between each two
abbrev pub spaced : List ℕ → List ℕ
spaced [] = []
spaced (number ∷ []) = decimal number
spaced (number ∷ next ∷ rest) = decimal number ++ 32 ∷ spaced (next ∷ rest)

-- the row of a step: its window, its number there, its stream, the version that it appended, and those that it read
unfoldable pub step_row : ℕ → ℕ → List ℕ → ℕ → List ℕ → List ℕ
step_row window step name version inputs =
    line (decimal window ∷ decimal step ∷ name ∷ decimal version ∷ spaced inputs ∷ [])
