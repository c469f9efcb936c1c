-- A tube: for each tick of a window the bands of a stream's channels.
use Rattle.std.specs.Prelude.{◌≢◌, ◌&&◌, ℕ, Bool, true, false, int_le, nat_abs, ◌-ℤ◌, List, [], ◌∷◌, map, sum_by, slice_index_or}
use Rattle.std.specs.Int.{int_min, int_max}
use Rattle.std.specs.List.{range_with_len}
use Rattle.quant.specs.Interval.{Interval, AllInside, AllBands}

abbrev pub Tube : Type 0
Tube = List (List Interval)

-- the bands at a tick
abbrev pub at : Tube → ℕ → List Interval
at tube t = slice_index_or tube t []

-- the tube of n ticks with these bands
abbrev pub tube_of : (ℕ → List Interval) → ℕ → Tube
tube_of bands n = map bands (range_with_len 0 n)

-- each band lies in the one at its place, and the shapes are one
abbrev pub IsWithin : Tube → Tube → Type 0
IsWithin [] [] = Unit {0}
IsWithin [] (B ∷ Bs) = ⊥
IsWithin (A ∷ As) [] = ⊥
IsWithin (A ∷ As) (B ∷ Bs) = AllInside A B × IsWithin As Bs

-- the same as a test
abbrev pub all_inside : List Interval → List Interval → Bool
all_inside [] [] = true
all_inside [] (B ∷ Bs) = false
all_inside (A ∷ As) [] = false
all_inside (A ∷ As) (B ∷ Bs) = (int_le B.lo A.lo && int_le A.hi B.hi) && all_inside As Bs

abbrev pub is_within : Tube → Tube → Bool
is_within [] [] = true
is_within [] (B ∷ Bs) = false
is_within (A ∷ As) [] = false
is_within (A ∷ As) (B ∷ Bs) = all_inside A B && is_within As Bs

-- within it, and another
pub record IsNarrower (A B : Tube) : Type 0 where
  pub within : IsWithin A B
  pub other : A ≢ B

-- each place has a number
abbrev pub HasNumbers : Tube → Type 0
HasNumbers [] = Unit {0}
HasNumbers (A ∷ As) = AllBands A × HasNumbers As

-- the numbers that both have, place by place
abbrev pub meet_bands : List Interval → List Interval → List Interval
meet_bands [] Bs = []
meet_bands (A ∷ As) [] = []
meet_bands (A ∷ As) (B ∷ Bs) = record { lo = int_max A.lo B.lo; hi = int_min A.hi B.hi } ∷ meet_bands As Bs

abbrev pub meet : Tube → Tube → Tube
meet [] Bs = []
meet (A ∷ As) [] = []
meet (A ∷ As) (B ∷ Bs) = meet_bands A B ∷ meet As Bs

-- the sum of hi - lo
abbrev pub width : Tube → ℕ
width tube = sum_by (λ bands. sum_by (λ (B : Interval). nat_abs (B.hi -ℤ B.lo)) bands) tube
