-- Bands as contracts see them: an interval of whole numbers, by its ends.
use Rattle.std.specs.Prelude.{ℕ, ◌^◌, ℤ, pos, ◌≤ℤ◌, List, [], ◌∷◌, map, neg_ℤ}
use Rattle.std.specs.Int.{int_min, int_max}

-- the whole numbers from lo to hi
pub record Interval : Type 0 where
  pub lo : ℤ
  pub hi : ℤ

-- the number lies in the interval
pub record Holds (A : Interval) (z : ℤ) : Type 0 where
  pub above : A.lo ≤ℤ z
  pub below : z ≤ℤ A.hi

-- the interval has a number in it, as each band has
pub record IsBand (A : Interval) : Type 0 where
  pub ordered : A.lo ≤ℤ A.hi

-- the first interval lies in the second
pub record IsInside (A B : Interval) : Type 0 where
  pub above : B.lo ≤ℤ A.lo
  pub below : A.hi ≤ℤ B.hi

-- one number alone
abbrev pub point : ℤ → Interval
point z = record { lo = z; hi = z }

-- the least interval round both
abbrev pub join : Interval → Interval → Interval
join A B = record { lo = int_min A.lo B.lo; hi = int_max A.hi B.hi }

-- each number lies in the interval at its place, and there are as many of both
abbrev pub AllHold : List Interval → List ℤ → Type 0
AllHold [] [] = Unit {0}
AllHold [] (z ∷ zs) = ⊥
AllHold (A ∷ As) [] = ⊥
AllHold (A ∷ As) (z ∷ zs) = Holds A z × AllHold As zs

-- each interval lies in the one at its place, and there are as many of both
abbrev pub AllInside : List Interval → List Interval → Type 0
AllInside [] [] = Unit {0}
AllInside [] (B ∷ Bs) = ⊥
AllInside (A ∷ As) [] = ⊥
AllInside (A ∷ As) (B ∷ Bs) = IsInside A B × AllInside As Bs

-- each has a number in it
abbrev pub AllBands : List Interval → Type 0
AllBands [] = Unit {0}
AllBands (A ∷ As) = IsBand A × AllBands As

-- each number alone
abbrev pub points : List ℤ → List Interval
points zs = map point zs

-- the numbers of at most this size
abbrev pub around : ℕ → Interval
around n = record { lo = neg_ℤ (pos n); hi = pos n }

-- the greatest size of a limit and of an input
abbrev pub widest : ℕ
widest = 10 ^ 12

-- where each limit and each input lies
abbrev pub wide : Interval
wide = around widest
