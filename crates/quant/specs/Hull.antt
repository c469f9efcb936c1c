-- The exact hull of an operation over bands: from its least to its greatest value over the corners.
use Rattle.std.specs.Prelude.{◌≡◌, ℤ, ◌≤ℤ◌}
use Rattle.quant.specs.Interval.{Interval, Holds, point, join}

-- The hull, one argument at a time: round what the two ends of the first argument give.
abbrev pub hull1 : (ℤ → ℤ) → Interval → Interval
hull1 f A = join (point (f A.lo)) (point (f A.hi))

abbrev pub hull2 : (ℤ → ℤ → ℤ) → Interval → Interval → Interval
hull2 f A B = join (hull1 (f A.lo) B) (hull1 (f A.hi) B)

abbrev pub hull3 : (ℤ → ℤ → ℤ → ℤ) → Interval → Interval → Interval → Interval
hull3 f A B C = join (hull2 (f A.lo) B C) (hull2 (f A.hi) B C)

abbrev pub hull4 : (ℤ → ℤ → ℤ → ℤ → ℤ) → Interval → Interval → Interval → Interval → Interval
hull4 f A B C D = join (hull3 (f A.lo) B C D) (hull3 (f A.hi) B C D)

abbrev pub hull5 : (ℤ → ℤ → ℤ → ℤ → ℤ → ℤ) → Interval → Interval → Interval → Interval → Interval → Interval
hull5 f A B C D E = join (hull4 (f A.lo) B C D E) (hull4 (f A.hi) B C D E)

-- z is a value of f at numbers of these bands
abbrev pub IsValue1 : (ℤ → ℤ) → Interval → ℤ → Type 0
IsValue1 f A z = (a : ℤ) × Holds A a × (f a ≡ z)

abbrev pub IsValue2 : (ℤ → ℤ → ℤ) → Interval → Interval → ℤ → Type 0
IsValue2 f A B z = (a : ℤ) × Holds A a × IsValue1 (f a) B z

abbrev pub IsValue3 : (ℤ → ℤ → ℤ → ℤ) → Interval → Interval → Interval → ℤ → Type 0
IsValue3 f A B C z = (a : ℤ) × Holds A a × IsValue2 (f a) B C z

abbrev pub IsValue4 : (ℤ → ℤ → ℤ → ℤ → ℤ) → Interval → Interval → Interval → Interval → ℤ → Type 0
IsValue4 f A B C D z = (a : ℤ) × Holds A a × IsValue3 (f a) B C D z

abbrev pub IsValue5 : (ℤ → ℤ → ℤ → ℤ → ℤ → ℤ) → Interval → Interval → Interval → Interval → Interval → ℤ → Type 0
IsValue5 f A B C D E z = (a : ℤ) × Holds A a × IsValue4 (f a) B C D E z

-- R is the exact hull of the values: each value lies in it, and each of its ends is a value
pub record IsHull (IsValue : ℤ → Type 0) (R : Interval) : Type 0 where
  pub holds : (z : ℤ) → IsValue z → Holds R z
  pub low : IsValue R.lo
  pub high : IsValue R.hi

-- Monotone, upward or downward: the value at a middle argument lies between the values at the outer two.
abbrev pub IsMonotone1 : (ℤ → ℤ) → Type 0
IsMonotone1 f = (a b c : ℤ) → a ≤ℤ b → b ≤ℤ c → Holds (join (point (f a)) (point (f c))) (f b)

-- Monotone in each argument with the others held, in a direction that may depend on the others.
abbrev pub IsMonotone2 : (ℤ → ℤ → ℤ) → Type 0
IsMonotone2 f = ((b : ℤ) → IsMonotone1 (λ a. f a b)) × ((a : ℤ) → IsMonotone1 (f a))

abbrev pub IsMonotone3 : (ℤ → ℤ → ℤ → ℤ) → Type 0
IsMonotone3 f = ((b c : ℤ) → IsMonotone1 (λ a. f a b c)) × ((a : ℤ) → IsMonotone2 (f a))

abbrev pub IsMonotone4 : (ℤ → ℤ → ℤ → ℤ → ℤ) → Type 0
IsMonotone4 f = ((b c d : ℤ) → IsMonotone1 (λ a. f a b c d)) × ((a : ℤ) → IsMonotone3 (f a))

abbrev pub IsMonotone5 : (ℤ → ℤ → ℤ → ℤ → ℤ → ℤ) → Type 0
IsMonotone5 f = ((b c d e : ℤ) → IsMonotone1 (λ a. f a b c d e)) × ((a : ℤ) → IsMonotone4 (f a))
