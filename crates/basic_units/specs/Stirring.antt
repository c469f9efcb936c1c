-- Words of the proofs: a reader of the contracts needs none of them.
-- What a vessel's rows hold, as far as its steps need it.
use Rattle.std.specs.Prelude.{◌≤◌, ℤ, pos, List, length, slice_index_or}
use Rattle.quant.specs.Interval.{Interval, Holds, IsInside, wide, point}
use Rattle.quant.specs.Limits.{wide_from}

-- the states of a vessel: there is some volume
pub record AreStates (state : List ℤ) : Type 0 where
  pub four : 4 ≤ length state
  pub volume : Holds (wide_from (pos 1)) (slice_index_or state 0 (pos 0))
  pub conc : Holds wide (slice_index_or state 2 (pos 0))
  pub temp : Holds wide (slice_index_or state 3 (pos 0))

-- what flows in, and the valve: nothing flows back
pub record AreInputs (ins : List ℤ) : Type 0 where
  pub four : 4 ≤ length ins
  pub flow : Holds (wide_from (pos 0)) (slice_index_or ins 0 (pos 0))
  pub conc : Holds wide (slice_index_or ins 1 (pos 0))
  pub temp : Holds wide (slice_index_or ins 2 (pos 0))

-- the same of bands
pub record AreStateBands (states : List Interval) : Type 0 where
  pub four : 4 ≤ length states
  pub volume : IsInside (slice_index_or states 0 (point (pos 0))) (wide_from (pos 1))
  pub conc : IsInside (slice_index_or states 2 (point (pos 0))) wide
  pub temp : IsInside (slice_index_or states 3 (point (pos 0))) wide

pub record AreInputBands (ins : List Interval) : Type 0 where
  pub four : 4 ≤ length ins
  pub flow : IsInside (slice_index_or ins 0 (point (pos 0))) (wide_from (pos 0))
  pub conc : IsInside (slice_index_or ins 1 (point (pos 0))) wide
  pub temp : IsInside (slice_index_or ins 2 (point (pos 0))) wide
