-- The hulls of clamp, sum and difference by their ends, as the band functions compute them.
use Rattle.std.proofs.Common.{◌≡◌, ℤ, ◌+ℤ◌, ◌-ℤ◌, ◌≤ℤ◌, ap, subst, sym, arith, FitsSigned, to_z, of_z, ◌∙◌}
use Rattle.std.proofs.lemmas.Int.{ints, clamps, to_z-of_z}
use Rattle.quant.specs.Interval.{Interval, IsBand, Holds, IsInside}
use Rattle.quant.specs.Hull.{hull1, hull2, IsHull, IsValue2, IsMonotone2}
use Rattle.quant.specs.Operation.{clamp}
use Rattle.quant.proofs.Hulls.{same_ends, hull2-exact}
use Rattle.std.specs.Int.{w64}
use Rattle.quant.proofs.Operations.{clamp-rises}

-- the same intervals have the same ends
pub ends_same : (R Q : Interval) → R ≡ Q → (R.lo ≡ Q.lo) × (R.hi ≡ Q.hi)
ends_same R Q e = (ap (λ (i : Interval). i.lo) e, ap (λ (i : Interval). i.hi) e)

-- a band whose fields are read has a number in it, its ends come back from 64 bits, and each lies where the band does
pub read-band : (I A : Interval) → I ≡ A → I.lo ≤ℤ I.hi → IsBand A
read-band I A e h = subst IsBand e (record { ordered = h })

abbrev pub AreEnds : Interval → Interval → Type 0
AreEnds I A = (to_z w64 (of_z w64 I.lo) ≡ A.lo) × (to_z w64 (of_z w64 I.hi) ≡ A.hi)

pub read-ends : (I A : Interval) → I ≡ A → FitsSigned w64 I.lo → FitsSigned w64 I.hi → AreEnds I A
read-ends I A e h k =
    let same = ends_same I A e in
    (to_z-of_z w64 I.lo h ∙ same.0, to_z-of_z w64 I.hi k ∙ same.1)

-- a band that is read: it has a number in it, and its ends come back
pub record IsRead (I A : Interval) : Type 0 where
  pub band : IsBand A
  pub ends : AreEnds I A

pub is_read : (I A : Interval) → I ≡ A → I.lo ≤ℤ I.hi → FitsSigned w64 I.lo → FitsSigned w64 I.hi → IsRead I A
is_read I A e o h k = record { band = read-band I A e o; ends = read-ends I A e h k }

pub read-high : (I A B : Interval) → I ≡ A → I.lo ≤ℤ I.hi → FitsSigned w64 I.hi → IsInside A B →
    Holds B (to_z w64 (of_z w64 I.hi))
read-high I A B e o h i =
    let same = ends_same I A e in
    record { above = omega (arith, ints); below = omega (arith, ints) }

-- an exact hull under another name
pub exact_of : (V : ℤ → Type 0) (R Q : Interval) → R ≡ Q → IsHull V Q → IsHull V R
exact_of V R Q e h = subst (IsHull V) (sym e) h

-- where f rises over a band, its hull goes from the value at the least to that at the greatest number
pub hull1-ends : (f : ℤ → ℤ) (A R : Interval) → f A.lo ≤ℤ f A.hi → R.lo ≡ f A.lo → R.hi ≡ f A.hi → R ≡ hull1 f A
hull1-ends f A R h l k = same_ends R (hull1 f A) (omega (arith, ints, clamps)) (omega (arith, ints, clamps))

-- the hull of clamp, by its ends
pub clamp-hull : (limits A R : Interval) → IsBand A → R.lo ≡ clamp limits A.lo → R.hi ≡ clamp limits A.hi →
    R ≡ hull1 (clamp limits) A
clamp-hull limits A R a l h = hull1-ends (clamp limits) A R (clamp-rises limits A.lo A.hi a.ordered) l h

-- the exact hull of what is monotone in two arguments
pub exact2 : (f : ℤ → ℤ → ℤ) (A B R : Interval) → IsMonotone2 f → IsBand A → IsBand B → R ≡ hull2 f A B →
    IsHull (IsValue2 f A B) R
exact2 f A B R m a b e = exact_of (IsValue2 f A B) R (hull2 f A B) e (hull2-exact f A B a b m)

-- the hull of the sum, by its ends
pub sum-hull : (A B R : Interval) → IsBand A → IsBand B → R.lo ≡ A.lo +ℤ B.lo → R.hi ≡ A.hi +ℤ B.hi → R ≡ hull2 ◌+ℤ◌ A B
sum-hull A B R a b l h = same_ends R (hull2 ◌+ℤ◌ A B) (omega (arith, ints, clamps)) (omega (arith, ints, clamps))

-- the hull of the difference, by its ends
pub difference-hull : (A B R : Interval) → IsBand A → IsBand B → R.lo ≡ A.lo -ℤ B.hi → R.hi ≡ A.hi -ℤ B.lo →
    R ≡ hull2 ◌-ℤ◌ A B
difference-hull A B R a b l h = same_ends R (hull2 ◌-ℤ◌ A B) (omega (arith, ints, clamps)) (omega (arith, ints, clamps))
