-- Words of the proofs: a reader of the contracts needs none of them.
use Rattle.std.specs.Prelude.{◌≡◌, ◌≢◌, ℕ, ◌<◌, pos, ◌-ℤ◌, nat_abs, List, ◌++◌, length, take, drop, slice_index_or, Option, Some, None, Bool, int_le}
use Rattle.std.specs.Int.{int_min, int_max}
use Rattle.quant.specs.Interval.{Interval, AllBands, IsBand, IsInside, point}
use Rattle.relaxation.specs.Tube.{meet_bands}

-- how much of the line a band covers
abbrev pub reach : Interval → ℕ
reach band = nat_abs (band.hi -ℤ band.lo)

-- the numbers that two bands have in common, where there are any
abbrev pub common : Interval → Interval → Interval
common A B = record { lo = int_max A.lo B.lo; hi = int_min A.hi B.hi }

abbrev pub has_number : Interval → Bool
has_number A = int_le A.lo A.hi

abbrev pub nth : List Interval → ℕ → Interval
nth bands i = slice_index_or bands i (point (pos 0))

-- the list with other bands from a place on
abbrev pub written : List Interval → ℕ → List Interval → List Interval
written bands start row = take start bands ++ (row ++ drop (length row) (drop start bands))

-- the first place at which the meet of two lists has no number, or none
abbrev pub IsFirstApart : Option ℕ → List Interval → List Interval → Type 0
IsFirstApart None As Bs = AllBands (meet_bands As Bs)
IsFirstApart (Some i) As Bs =
    (i < length As) × (IsBand (nth (meet_bands As Bs) i) → ⊥) × ((j : ℕ) → j < i → IsBand (nth (meet_bands As Bs) j))

-- the bands before a place, each with a number, lie in the others there
abbrev pub AreInsideBefore : ℕ → List Interval → List Interval → Type 0
AreInsideBefore i As Bs = (j : ℕ) → j < i → IsBand (nth As j) × IsInside (nth As j) (nth Bs j)

-- the first place at which a band does not lie in the other, or none
abbrev pub IsFirstOutside : Option ℕ → List Interval → List Interval → Type 0
IsFirstOutside None As Bs = AreInsideBefore (length As) As Bs
IsFirstOutside (Some i) As Bs = (i < length As) × (IsInside (nth As i) (nth Bs i) → ⊥) × AreInsideBefore i As Bs

-- the first place at which two lists have different bands, or none
abbrev pub IsFirstDifferent : Option ℕ → List Interval → List Interval → Type 0
IsFirstDifferent None As Bs = As ≡ Bs
IsFirstDifferent (Some i) As Bs = (i < length As) × (nth As i ≢ nth Bs i) × ((j : ℕ) → j < i → nth As j ≡ nth Bs j)
