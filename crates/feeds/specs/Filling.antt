-- Words of the proofs: a reader of the contracts needs none of them.
-- The tubes of a window that are given what records say, tick by tick.
use Rattle.std.specs.Prelude.{◌≡◌, ℕ, ◌+◌, ◌<◌, ◌≤◌, List, [], length, slice_index_or, slice_set, Option}
use Rattle.quant.specs.Interval.{Interval}
use Rattle.relaxation.specs.Tube.{Tube, at}
use Rattle.parts.specs.Parts.{FileParts}
use Rattle.parts.specs.Given.{given_bands}
use Rattle.feeds.specs.declared.record.Record.{Record}
use Rattle.feeds.specs.Held.{held_of, held_at, covered}

-- a tube with bands that are held in the place of others at a tick
abbrev pub covered_at : List (Option Interval) → ℕ → Tube → Tube
covered_at held tick tube = slice_set tube tick (covered held (at tube tick))

-- the tube of the feed with this number
abbrev pub tube_in : List Tube → ℕ → Tube
tube_in tubes f = slice_index_or tubes f []

-- there is a tube for each feed, and in it the tick, with as many channels as the feed has
pub record CanCover (held : List (List (Option Interval))) (tick : ℕ) (tubes : List Tube) : Type 0 where
  pub counted : length tubes ≡ length held
  pub ticks : (f : ℕ) → f < length held → tick < length (tube_in tubes f)
  pub channels : (f : ℕ) → f < length held → length (held_of held f) ≡ length (at (tube_in tubes f) tick)
  pub few : (f : ℕ) → f < length held → length (held_of held f) ≤ 3

-- what is held is in the place of other bands at this tick, in the tubes of the feeds before this one
pub record AreCoveredBefore (held : List (List (Option Interval))) (tick end : ℕ) (old tubes : List Tube) : Type 0 where
  pub counted : length tubes ≡ length old
  pub covered : (f : ℕ) → f < end → tube_in tubes f ≡ covered_at (held_of held f) tick (tube_in old f)
  pub others : (f : ℕ) → end ≤ f → tube_in tubes f ≡ tube_in old f

-- the bands of a feed at a tick, where records follow what is held
abbrev pub filled_bands : FileParts → List (List (Option Interval)) → List Record → ℕ → ℕ → List Interval
filled_bands parts held records tick f = covered (held_of (held_at held records tick) f) (given_bands parts tick f)

-- tubes of n ticks from a first one, of which those before this one have what records say, and the others what the plant file gives
pub record AreFilledBefore (parts : FileParts) (held : List (List (Option Interval))) (records : List Record)
    (first n end : ℕ) (tubes : List Tube) : Type 0 where
  pub counted : length tubes ≡ length parts.feeds
  pub ticks : (f : ℕ) → f < length parts.feeds → length (tube_in tubes f) ≡ n
  pub filled : (f t : ℕ) → f < length parts.feeds → t < end →
      at (tube_in tubes f) t ≡ filled_bands parts held records (first + t) f
  pub given : (f t : ℕ) → f < length parts.feeds → end ≤ t → t < n →
      at (tube_in tubes f) t ≡ given_bands parts (first + t) f
