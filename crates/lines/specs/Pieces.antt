-- Words of the proofs: a reader of the contracts needs none of them.
use Rattle.std.specs.Prelude.{◌≡◌, ◌≢◌, ◌⊎◌, ℕ, ◌-◌, ◌<◌, ◌≤◌, ◌==◌, List, [], ◌∷◌, length, drop, slice_index, slice_range, position, Option, if◌then◌else◌}
use Rattle.std.specs.List.{Contains}
use Rattle.lines.specs.declared.cutting.Line.{Line}
use Rattle.lines.specs.Lines.{line_feed, lines_of, ended_lines_of}

-- the place of the first such byte
abbrev pub place_of : ℕ → List ℕ → Option ℕ
place_of separator text = position (λ byte. byte == separator) text

-- a line before other lines, where it is not empty
abbrev pub before_lines : List ℕ → List (List ℕ) → List (List ℕ)
before_lines line lines = if length line == 0 then lines else line ∷ lines

-- the line that begins at this place, which may be empty
pub record BeginsLine (bytes : List ℕ) (place : ℕ) (line : Line) : Type 0 where
  pub start : line.start ≡ place
  pub stop : line.start ≤ line.stop
  pub after : line.stop ≤ line.after
  pub further : place < line.after
  pub inside : line.after ≤ length bytes
  pub whole : ¬ Contains (slice_range bytes line.start (line.after - 1)) line_feed
  pub lines : lines_of (drop place bytes) ≡
      before_lines (slice_range bytes line.start line.stop) (lines_of (drop line.after bytes))
  pub ended : slice_index bytes (line.after - 1) ≡ line_feed →
      ended_lines_of (drop place bytes) ≡
      before_lines (slice_range bytes line.start line.stop) (ended_lines_of (drop line.after bytes))
  pub unended : slice_index bytes (line.after - 1) ≢ line_feed →
      (ended_lines_of (drop place bytes) ≡ []) × (line.after ≡ length bytes)

-- nothing but empty lines stands between two places, and a line may begin at the second, where the text goes on there
pub record PassesEmpty (bytes : List ℕ) (from place : ℕ) : Type 0 where
  pub forward : from ≤ place
  pub inside : place ≤ length bytes
  pub begins : place < length bytes → (place ≡ from) ⊎ (slice_index bytes (place - 1) ≡ line_feed)
  pub lines : lines_of (drop from bytes) ≡ lines_of (drop place bytes)
  pub ended : ended_lines_of (drop from bytes) ≡ ended_lines_of (drop place bytes)
