-- A line of a table: fields joined by commas, ended by one line feed. No field needs quotes.
use Rattle.std.specs.Prelude.{ℕ, List, [], ◌∷◌, ◌++◌}

abbrev pub comma : ℕ
comma = 44

abbrev pub line_feed : ℕ
line_feed = 10

-- the fields with a comma between each two
abbrev pub joined : List (List ℕ) → List ℕ
joined [] = []
joined (field ∷ []) = field
joined (field ∷ next ∷ rest) = field ++ comma ∷ joined (next ∷ rest)

abbrev pub line : List (List ℕ) → List ℕ
line fields = joined fields ++ line_feed ∷ []
