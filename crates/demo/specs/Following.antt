-- Words of the proofs: a session that follows the run of a plant, and the sums so far.
use Rattle.std.specs.Prelude.{◌≡◌, ◌+◌, ◌≤◌, ◌*◌, ℕ, ℤ, [], length, Some, None}
use Rattle.quant.specs.Interval.{Interval}
use Rattle.parts.specs.Parts.{FileParts}
use Rattle.plant_streams.specs.Streams.{streams_of}
use Rattle.plant.specs.Sound.{IsPlant}
use Rattle.plant.specs.Rows.{streams_of_run}
use Rattle.feeds.specs.Given.{given_by}
use Rattle.feeds.specs.ReaderOf.{ReaderOf, Feeding}
use Rattle.window_accept.specs.Searching.{AsksForNone}
use Rattle.window_accept.specs.Session.{SessionOf, IsAlong, next_ticks}
use Rattle.demo.specs.Summary.{sum_below, sum_of_bands}
use Rattle.demo.specs.Adding.{most_streams, most_ticks}

-- the sum over the rows of a plant's interval run at a tick, and over those of its first n ticks
abbrev pub sum_in_run : FileParts → ℕ → (Interval → ℤ) → ℤ
sum_in_run parts tick f = sum_below (length (streams_of parts)) (λ s.
    sum_of_bands f (streams_of_run parts (given_by parts None) tick s))

abbrev pub sum_of_ticks : FileParts → ℕ → (Interval → ℤ) → ℤ
sum_of_ticks parts n f = sum_below n (λ tick. sum_in_run parts tick f)

-- a number of windows that have all ticks, none of which is left out
pub record IsWindowCount (parts : FileParts) (count : ℕ) : Type 0 where
  pub enough : parts.ticks ≤ count * parts.window
  pub least : (fewer : ℕ) → parts.ticks ≤ fewer * parts.window → count ≤ fewer

-- a plant of few ticks and streams that asks for no widths
pub record IsSmallPlant (parts : FileParts) : Type 0 where
  pub plant : IsPlant parts
  pub ticks : parts.ticks ≤ most_ticks
  pub streams : length (streams_of parts) ≤ most_streams
  pub widths : AsksForNone parts.width

-- a reader with a source at its end, which never fails
abbrev pub plain_feeding : ReaderOf → Feeding
plain_feeding reader = record { reader = reader; left = Some []; faults = 0 }

-- the session follows its plant's run, with a reader that has no records
abbrev pub IsFollowing : SessionOf → ReaderOf → Type 0
IsFollowing session reader = IsAlong None session (plain_feeding reader)

-- a session and its reader after a window
pub record HasMoved (old new : SessionOf) (reader : ReaderOf) : Type 0 where
  pub same : new.parts ≡ old.parts
  pub tick : new.tick ≡ old.tick + next_ticks old
  pub following : IsFollowing new reader
