-- A text that is cut into lines, and lines that are cut into fields.
use Rattle.std.specs.Prelude.{◌≡◌, ◌≢◌, ◌⊎◌, ℕ, ◌-◌, ◌≤◌, ◌==◌, not, List, [], ◌∷◌, length, map, take, drop, slice_index, slice_range, Option, Some, None}
use Rattle.std.specs.List.{Contains, filter, slice_split}
use Rattle.std.specs.Str.Lines.{strip_carriage_return}
use Rattle.lines.specs.declared.cutting.Line.{Line}

abbrev pub line_feed : ℕ
line_feed = 10

abbrev pub carriage_return : ℕ
carriage_return = 13

abbrev pub comma : ℕ
comma = 44

-- the pieces of a text between its separators: one more than there are of these
abbrev pub pieces_of : ℕ → List ℕ → List (List ℕ)
pieces_of separator text = slice_split (λ byte. byte == separator) text

-- the fields of a line: what stands between its commas
abbrev pub fields_of : List ℕ → List (List ℕ)
fields_of line = pieces_of comma line

-- the lines that pieces of a text make: without the one carriage return at their end, and none that is then empty
abbrev pub lines_in : List (List ℕ) → List (List ℕ)
lines_in pieces = filter (λ line. not (length line == 0)) (map strip_carriage_return pieces)

-- the lines of a text: it is cut at each line feed, and what follows the last one is a line too
abbrev pub lines_of : List ℕ → List (List ℕ)
lines_of text = lines_in (pieces_of line_feed text)

-- all pieces but the last one
abbrev pub all_but_last : List (List ℕ) → List (List ℕ)
all_but_last pieces = take (length pieces - 1) pieces

-- the lines of a text that a line feed ends
abbrev pub ended_lines_of : List ℕ → List (List ℕ)
ended_lines_of text = lines_in (all_but_last (pieces_of line_feed text))

-- The first line from this place on: it stands between its start and its stop, with nothing but empty lines before it. A
-- line feed ends it, behind which the text goes on with the lines after it, or the text ends with it.
pub record IsLineAt (bytes : List ℕ) (from : ℕ) (line : Line) : Type 0 where
  pub start : from ≤ line.start
  pub stop : line.start ≤ line.stop
  pub after : line.stop ≤ line.after
  pub inside : line.after ≤ length bytes
  -- it begins at this place or behind a line feed, and what stands before it has no line
  pub begins : (line.start ≡ from) ⊎ (slice_index bytes (line.start - 1) ≡ line_feed)
  pub before : lines_of (slice_range bytes from line.start) ≡ []
  -- no line feed is in it but the one that ends it
  pub whole : ¬ Contains (slice_range bytes line.start (line.after - 1)) line_feed
  pub lines : lines_of (drop from bytes) ≡ slice_range bytes line.start line.stop ∷ lines_of (drop line.after bytes)
  -- it is among the lines that a line feed ends, where one stands before what follows it; else the text ends with it
  pub ended : slice_index bytes (line.after - 1) ≡ line_feed →
      ended_lines_of (drop from bytes) ≡ slice_range bytes line.start line.stop ∷ ended_lines_of (drop line.after bytes)
  pub unended : slice_index bytes (line.after - 1) ≢ line_feed →
      (ended_lines_of (drop from bytes) ≡ []) × (line.after ≡ length bytes)

-- the first line from this place on, or none where there is no further line
abbrev pub FindsLine : Option Line → List ℕ → ℕ → Type 0
FindsLine None bytes from = lines_of (drop from bytes) ≡ []
FindsLine (Some line) bytes from = IsLineAt bytes from line

-- the fields that follow a comma, and none where there is none
abbrev pub fields_after : Option (List ℕ) → List (List ℕ)
fields_after None = []
fields_after (Some rest) = fields_of rest
