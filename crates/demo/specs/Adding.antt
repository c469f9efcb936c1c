-- Words of the proofs: a reader of the contract of the crate's one call needs none of them. What sums add up, and how large they can be.
use Rattle.std.specs.Prelude.{◌≡◌, ◌<◌, ◌≤◌, ◌^◌, ℕ, ℤ, List, [], length, slice_index_or}
use Rattle.std.specs.List.{AllByRecursion}
use Rattle.quant.specs.Interval.{Interval, Holds, IsBand, IsInside, around, wide}
use Rattle.relaxation.specs.Tube.{at}
use Rattle.relax_core.specs.Settled.{WindowOf}
use Rattle.demo.specs.declared.sums.Sums.{Sums}
use Rattle.demo.specs.Summary.{sum_below, sum_of_bands, width_of, ends_of}

-- the sums are those of what `sum` adds up of each band
pub record AreSums (sums : Sums) (sum : (Interval → ℤ) → ℤ) : Type 0 where
  pub width : sums.width ≡ sum width_of
  pub ends : sums.ends ≡ sum ends_of

-- the sum over the rows of a window at a tick, counted from its first
abbrev pub sum_at : WindowOf → ℕ → (Interval → ℤ) → ℤ
sum_at window tick f = sum_below (length window.tubes) (λ s. sum_of_bands f (at (slice_index_or window.tubes s []) tick))

-- the sums are far from what their type cannot hold
pub record AreFarInside (sums : Sums) : Type 0 where
  pub width : Holds (around (2 ^ 61)) sums.width
  pub ends : Holds (around (2 ^ 61)) sums.ends

-- a band of wide numbers
pub record IsWideBand (band : Interval) : Type 0 where
  pub ordered : IsBand band
  pub inside : IsInside band wide

-- a row of few bands, each of wide numbers
pub record IsSmallRow (row : List Interval) : Type 0 where
  pub few : length row ≤ 3
  pub bands : AllByRecursion IsWideBand row

-- the most streams, and the most ticks
abbrev pub most_streams : ℕ
most_streams = 402

abbrev pub most_ticks : ℕ
most_ticks = 48

-- a window of few ticks and streams, each with such a row at each tick
pub record IsSmallWindow (window : WindowOf) : Type 0 where
  pub ticks : window.ticks ≤ most_ticks
  pub streams : length window.tubes ≤ most_streams
  pub ticked : (s : ℕ) → s < length window.tubes → length (slice_index_or window.tubes s []) ≡ window.ticks
  pub rows : (t s : ℕ) → t < window.ticks → s < length window.tubes → IsSmallRow (at (slice_index_or window.tubes s []) t)
