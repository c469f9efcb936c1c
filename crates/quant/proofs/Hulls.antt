-- What holds of the hull of any monotone operation.
use Rattle.std.proofs.Common.{◌≡◌, ℤ, ◌≤ℤ◌, refl, ap, ◌∙◌, subst, sym, arith}
use Rattle.std.proofs.lemmas.Int.{ints, clamps}
use mathlib.Core.Logic.{◌⊎◌, inl, inr}
use Rattle.std.specs.Int.{int_min, int_max}
use Rattle.quant.specs.Interval.{Interval, Holds, IsBand, IsInside, point, join}
use Rattle.quant.specs.Hull.{hull1, hull2, hull3, hull4, hull5, IsValue1, IsValue2, IsValue3, IsValue4, IsValue5, IsHull, IsMonotone1, IsMonotone2, IsMonotone3, IsMonotone4, IsMonotone5}

-- the interval between two ends
abbrev interval_of : ℤ → ℤ → Interval
interval_of l h = record { lo = l; hi = h }

-- intervals with the same ends are the same
pub same_ends : (R Q : Interval) → R.lo ≡ Q.lo → R.hi ≡ Q.hi → R ≡ Q
same_ends R Q l h = ap (λ x. interval_of x R.hi) l ∙ ap (interval_of Q.lo) h

-- each of two is at most the other only where they are the same
pub same_of_le : (a b : ℤ) → a ≤ℤ b → b ≤ℤ a → a ≡ b
same_of_le a b h k = omega (arith, ints)

-- the lesser of two is one of them, and so is the greater
pub min_is_one : (a b : ℤ) → (int_min a b ≡ a) ⊎ (int_min a b ≡ b)
min_is_one a b = grind (arith, ints, clamps)

pub max_is_one : (a b : ℤ) → (int_max a b ≡ a) ⊎ (int_max a b ≡ b)
max_is_one a b = grind (arith, ints, clamps)

-- what lies between two numbers lies between any intervals round these
pub join-holds : (P Q : Interval) (x y z : ℤ) → Holds P x → Holds Q y → Holds (join (point x) (point y)) z →
    Holds (join P Q) z
join-holds P Q x y z p q h = record { above = omega (arith, ints, clamps); below = omega (arith, ints, clamps) }

-- an interval joined with itself is itself
pub join-same : (P : Interval) → join P P ≡ P
join-same P = same_ends (join P P) P (omega (arith, ints, clamps)) (omega (arith, ints, clamps))

-- a number alone holds itself
pub point-holds : (x z : ℤ) → x ≡ z → Holds (point x) z
point-holds x z e = record { above = omega (arith, ints); below = omega (arith, ints) }

-- the hull lies in every interval that holds all the values
pub hull-inside : (V : ℤ → Type 0) (R Q : Interval) → IsHull V R → ((z : ℤ) → V z → Holds Q z) → IsInside R Q
hull-inside V R Q r h = record { above = (h R.lo r.low).above; below = (h R.hi r.high).below }

-- the hull of fewer values lies in the hull of more
pub hull-narrows : (V W : ℤ → Type 0) (R Q : Interval) → IsHull V R → IsHull W Q → ((z : ℤ) → V z → W z) → IsInside R Q
hull-narrows V W R Q r q h = hull-inside V R Q r (λ z v. q.holds z (h z v))

-- intervals that lie in one another are the same
pub inside-same : (R Q : Interval) → IsInside R Q → IsInside Q R → R ≡ Q
inside-same R Q h k = same_ends R Q (same_of_le R.lo Q.lo k.above h.above) (same_of_le R.hi Q.hi h.below k.below)

-- there is one exact hull of any values
pub one_hull : (V : ℤ → Type 0) (R Q : Interval) → IsHull V R → IsHull V Q → R ≡ Q
one_hull V R Q r q = inside-same R Q (hull-narrows V V R Q r q (λ z v. v)) (hull-narrows V V Q R q r (λ z v. v))

-- a hull has a number in it
pub hull-band : (V : ℤ → Type 0) (R : Interval) → IsHull V R → IsBand R
hull-band V R r = record { ordered = (r.holds R.hi r.high).above }

-- what holds of two numbers holds of the lesser and of the greater
low_of : (V : ℤ → Type 0) (x y : ℤ) → V x → V y → V (int_min x y)
low_of V x y v w = elim (min_is_one x y) [ inl e ↦ subst V (sym e) v | inr e ↦ subst V (sym e) w ]

high_of : (V : ℤ → Type 0) (x y : ℤ) → V x → V y → V (int_max x y)
high_of V x y v w = elim (max_is_one x y) [ inl e ↦ subst V (sym e) v | inr e ↦ subst V (sym e) w ]

-- z is a value of V at a number of the band
abbrev pub IsValueOver : (ℤ → ℤ → Type 0) → Interval → ℤ → Type 0
IsValueOver V A z = (a : ℤ) × Holds A a × V a z

-- z lies between a value at x and one at y
pub record IsBetween (V : ℤ → ℤ → Type 0) (x y z : ℤ) : Type 0 where
  pub left : ℤ
  pub right : ℤ
  pub at_left : V x left
  pub at_right : V y right
  pub between : Holds (join (point left) (point right)) z

-- one more argument: the hull over it joins the hulls at its ends, where values at middle numbers lie between values
-- at the ends
pub hull-step : (V : ℤ → ℤ → Type 0) (R : ℤ → Interval) (A : Interval) → IsBand A → ((a : ℤ) → IsHull (V a) (R a)) →
    ((b z : ℤ) → A.lo ≤ℤ b → b ≤ℤ A.hi → V b z → IsBetween V A.lo A.hi z) →
    IsHull (IsValueOver V A) (join (R A.lo) (R A.hi))
hull-step V R A a r m =
    let first : Holds A A.lo = record { above = omega (arith, ints); below = a.ordered } in
    let last : Holds A A.hi = record { above = a.ordered; below = omega (arith, ints) } in
    record {
      holds = λ z v. let w = m v.0 z v.1.above v.1.below v.2 in
          join-holds (R A.lo) (R A.hi) w.left w.right z ((r A.lo).holds w.left w.at_left)
          ((r A.hi).holds w.right w.at_right) w.between;
      low = low_of (IsValueOver V A) (R A.lo).lo (R A.hi).lo (A.lo, first, (r A.lo).low) (A.hi, last, (r A.hi).low);
      high = high_of (IsValueOver V A) (R A.lo).hi (R A.hi).hi (A.lo, first, (r A.lo).high) (A.hi, last, (r A.hi).high);
    }

-- one value alone is its own hull
pub hull0-exact : (x : ℤ) → IsHull (λ z. x ≡ z) (point x)
hull0-exact x = record { holds = point-holds x; low = refl; high = refl }

-- the hull over the corners is the exact hull
pub hull1-exact : (f : ℤ → ℤ) (A : Interval) → IsBand A → IsMonotone1 f → IsHull (IsValue1 f A) (hull1 f A)
hull1-exact f A a m = hull-step (λ x z. f x ≡ z) (λ x. point (f x)) A a (λ x. hull0-exact (f x))
    (λ b z h k v. record {
      left = f A.lo;
      right = f A.hi;
      at_left = refl;
      at_right = refl;
      between = subst (λ w. Holds (join (point (f A.lo)) (point (f A.hi))) w) v (m A.lo b A.hi h k);
    })

pub hull2-exact : (f : ℤ → ℤ → ℤ) (A B : Interval) → IsBand A → IsBand B → IsMonotone2 f →
    IsHull (IsValue2 f A B) (hull2 f A B)
hull2-exact f A B a b m = hull-step (λ x z. IsValue1 (f x) B z) (λ x. hull1 (f x) B) A a
    (λ x. hull1-exact (f x) B b (m.1 x))
    (λ x z h k v. record {
      left = f A.lo v.0;
      right = f A.hi v.0;
      at_left = (v.0, v.1, refl);
      at_right = (v.0, v.1, refl);
      between = subst (λ w. Holds (join (point (f A.lo v.0)) (point (f A.hi v.0))) w) v.2 (m.0 v.0 A.lo x A.hi h k);
    })

pub hull3-exact : (f : ℤ → ℤ → ℤ → ℤ) (A B C : Interval) → IsBand A → IsBand B → IsBand C → IsMonotone3 f →
    IsHull (IsValue3 f A B C) (hull3 f A B C)
hull3-exact f A B C a b c m = hull-step (λ x z. IsValue2 (f x) B C z) (λ x. hull2 (f x) B C) A a
    (λ x. hull2-exact (f x) B C b c (m.1 x))
    (λ x z h k v. let w = v.2 in
    record {
      left = f A.lo v.0 w.0;
      right = f A.hi v.0 w.0;
      at_left = (v.0, v.1, (w.0, w.1, refl));
      at_right = (v.0, v.1, (w.0, w.1, refl));
      between = subst (λ y. Holds (join (point (f A.lo v.0 w.0)) (point (f A.hi v.0 w.0))) y) w.2
          (m.0 v.0 w.0 A.lo x A.hi h k);
    })

pub hull4-exact : (f : ℤ → ℤ → ℤ → ℤ → ℤ) (A B C D : Interval) → IsBand A → IsBand B → IsBand C → IsBand D →
    IsMonotone4 f → IsHull (IsValue4 f A B C D) (hull4 f A B C D)
hull4-exact f A B C D a b c d m = hull-step (λ x z. IsValue3 (f x) B C D z) (λ x. hull3 (f x) B C D) A a
    (λ x. hull3-exact (f x) B C D b c d (m.1 x))
    (λ x z h k v. let w = v.2 in let u = w.2 in
    record {
      left = f A.lo v.0 w.0 u.0;
      right = f A.hi v.0 w.0 u.0;
      at_left = (v.0, v.1, (w.0, w.1, (u.0, u.1, refl)));
      at_right = (v.0, v.1, (w.0, w.1, (u.0, u.1, refl)));
      between = subst (λ y. Holds (join (point (f A.lo v.0 w.0 u.0)) (point (f A.hi v.0 w.0 u.0))) y) u.2
          (m.0 v.0 w.0 u.0 A.lo x A.hi h k);
    })

pub hull5-exact : (f : ℤ → ℤ → ℤ → ℤ → ℤ → ℤ) (A B C D E : Interval) → IsBand A → IsBand B → IsBand C → IsBand D →
    IsBand E → IsMonotone5 f →
    IsHull (IsValue5 f A B C D E) (hull5 f A B C D E)
hull5-exact f A B C D E a b c d e m = hull-step (λ x z. IsValue4 (f x) B C D E z) (λ x. hull4 (f x) B C D E) A a
    (λ x. hull4-exact (f x) B C D E b c d e (m.1 x))
    (λ x z h k v. let w = v.2 in let u = w.2 in let t = u.2 in
    record {
      left = f A.lo v.0 w.0 u.0 t.0;
      right = f A.hi v.0 w.0 u.0 t.0;
      at_left = (v.0, v.1, (w.0, w.1, (u.0, u.1, (t.0, t.1, refl))));
      at_right = (v.0, v.1, (w.0, w.1, (u.0, u.1, (t.0, t.1, refl))));
      between = subst (λ y. Holds (join (point (f A.lo v.0 w.0 u.0 t.0)) (point (f A.hi v.0 w.0 u.0 t.0))) y) t.2
          (m.0 v.0 w.0 u.0 t.0 A.lo x A.hi h k);
    })

-- a band that holds a number has a number in it
pub holds-band : (A : Interval) (z : ℤ) → Holds A z → IsBand A
holds-band A z h = record { ordered = omega (arith, ints) }

-- what a narrower interval holds a wider one holds
pub inside-holds : (A B : Interval) (z : ℤ) → IsInside A B → Holds A z → Holds B z
inside-holds A B z i h = record { above = omega (arith, ints); below = omega (arith, ints) }

-- the hull holds the value at any numbers of the bands
pub hull1-holds : (f : ℤ → ℤ) (A : Interval) (x : ℤ) → IsMonotone1 f → Holds A x → Holds (hull1 f A) (f x)
hull1-holds f A x m h = (hull1-exact f A (holds-band A x h) m).holds (f x) (x, h, refl)

pub hull2-holds : (f : ℤ → ℤ → ℤ) (A B : Interval) (x y : ℤ) → IsMonotone2 f → Holds A x → Holds B y →
    Holds (hull2 f A B) (f x y)
hull2-holds f A B x y m h k = (hull2-exact f A B (holds-band A x h) (holds-band B y k) m).holds (f x y)
    (x, h, (y, k, refl))

pub hull4-holds : (f : ℤ → ℤ → ℤ → ℤ → ℤ) (A B C D : Interval) (x y z w : ℤ) → IsMonotone4 f → Holds A x → Holds B y →
    Holds C z → Holds D w →
    Holds (hull4 f A B C D) (f x y z w)
hull4-holds f A B C D x y z w m h k l n =
    (hull4-exact f A B C D (holds-band A x h) (holds-band B y k) (holds-band C z l) (holds-band D w n) m).holds
    (f x y z w) (x, h, (y, k, (z, l, (w, n, refl))))

pub hull5-holds : (f : ℤ → ℤ → ℤ → ℤ → ℤ → ℤ) (A B C D E : Interval) (x y z w u : ℤ) → IsMonotone5 f →
    Holds A x → Holds B y → Holds C z → Holds D w → Holds E u → Holds (hull5 f A B C D E) (f x y z w u)
hull5-holds f A B C D E x y z w u m h k l n o =
    (hull5-exact f A B C D E (holds-band A x h) (holds-band B y k) (holds-band C z l) (holds-band D w n)
    (holds-band E u o) m).holds
    (f x y z w u) (x, h, (y, k, (z, l, (w, n, (u, o, refl)))))

-- the hull over bands has a number in it
pub hull1-band : (f : ℤ → ℤ) (A : Interval) → IsMonotone1 f → IsBand A → IsBand (hull1 f A)
hull1-band f A m a = hull-band (IsValue1 f A) (hull1 f A) (hull1-exact f A a m)

pub hull2-band : (f : ℤ → ℤ → ℤ) (A B : Interval) → IsMonotone2 f → IsBand A → IsBand B → IsBand (hull2 f A B)
hull2-band f A B m a b = hull-band (IsValue2 f A B) (hull2 f A B) (hull2-exact f A B a b m)

pub hull4-band : (f : ℤ → ℤ → ℤ → ℤ → ℤ) (A B C D : Interval) → IsMonotone4 f → IsBand A → IsBand B → IsBand C →
    IsBand D → IsBand (hull4 f A B C D)
hull4-band f A B C D m a b c d = hull-band (IsValue4 f A B C D) (hull4 f A B C D) (hull4-exact f A B C D a b c d m)

pub hull5-band : (f : ℤ → ℤ → ℤ → ℤ → ℤ → ℤ) (A B C D E : Interval) → IsMonotone5 f → IsBand A → IsBand B → IsBand C →
    IsBand D → IsBand E →
    IsBand (hull5 f A B C D E)
hull5-band f A B C D E m a b c d e = hull-band (IsValue5 f A B C D E) (hull5 f A B C D E)
    (hull5-exact f A B C D E a b c d e m)

-- the hull over narrower bands is narrower
pub hull1-inside : (f : ℤ → ℤ) (A P : Interval) → IsMonotone1 f → IsBand A → IsInside A P →
    IsInside (hull1 f A) (hull1 f P)
hull1-inside f A P m a i = hull-inside (IsValue1 f A) (hull1 f A) (hull1 f P) (hull1-exact f A a m)
    (λ z v. subst (Holds (hull1 f P)) v.2 (hull1-holds f P v.0 m (inside-holds A P v.0 i v.1)))

pub hull2-inside : (f : ℤ → ℤ → ℤ) (A B P Q : Interval) → IsMonotone2 f → IsBand A → IsBand B → IsInside A P →
    IsInside B Q →
    IsInside (hull2 f A B) (hull2 f P Q)
hull2-inside f A B P Q m a b i j = hull-inside (IsValue2 f A B) (hull2 f A B) (hull2 f P Q) (hull2-exact f A B a b m)
    (λ z v. let w = v.2 in subst (Holds (hull2 f P Q)) w.2
    (hull2-holds f P Q v.0 w.0 m (inside-holds A P v.0 i v.1) (inside-holds B Q w.0 j w.1)))

pub hull4-inside : (f : ℤ → ℤ → ℤ → ℤ → ℤ) (A B C D P Q R S : Interval) → IsMonotone4 f → IsBand A → IsBand B →
    IsBand C → IsBand D →
    IsInside A P → IsInside B Q → IsInside C R → IsInside D S → IsInside (hull4 f A B C D) (hull4 f P Q R S)
hull4-inside f A B C D P Q R S m a b c d i j k l =
    hull-inside (IsValue4 f A B C D) (hull4 f A B C D) (hull4 f P Q R S) (hull4-exact f A B C D a b c d m)
    (λ z v. let w = v.2 in let u = w.2 in let t = u.2 in subst (Holds (hull4 f P Q R S)) t.2
    (hull4-holds f P Q R S v.0 w.0 u.0 t.0 m (inside-holds A P v.0 i v.1) (inside-holds B Q w.0 j w.1)
    (inside-holds C R u.0 k u.1)
    (inside-holds D S t.0 l t.1)))

pub hull5-inside : (f : ℤ → ℤ → ℤ → ℤ → ℤ → ℤ) (A B C D E P Q R S T : Interval) → IsMonotone5 f → IsBand A → IsBand B →
    IsBand C → IsBand D → IsBand E →
    IsInside A P → IsInside B Q → IsInside C R → IsInside D S → IsInside E T →
    IsInside (hull5 f A B C D E) (hull5 f P Q R S T)
hull5-inside f A B C D E P Q R S T m a b c d e i j k l n =
    hull-inside (IsValue5 f A B C D E) (hull5 f A B C D E) (hull5 f P Q R S T) (hull5-exact f A B C D E a b c d e m)
    (λ z v. let w = v.2 in let u = w.2 in let t = u.2 in let o = t.2 in subst (Holds (hull5 f P Q R S T)) o.2
    (hull5-holds f P Q R S T v.0 w.0 u.0 t.0 o.0 m (inside-holds A P v.0 i v.1) (inside-holds B Q w.0 j w.1)
    (inside-holds C R u.0 k u.1)
    (inside-holds D S t.0 l t.1) (inside-holds E T o.0 n o.1)))

-- the hull over bands of one number each is the value at these
pub hull1-point : (f : ℤ → ℤ) (x : ℤ) → hull1 f (point x) ≡ point (f x)
hull1-point f x = join-same (point (f x))

pub hull2-point : (f : ℤ → ℤ → ℤ) (x y : ℤ) → hull2 f (point x) (point y) ≡ point (f x y)
hull2-point f x y = join-same (hull1 (f x) (point y)) ∙ hull1-point (f x) y

pub hull3-point : (f : ℤ → ℤ → ℤ → ℤ) (x y z : ℤ) → hull3 f (point x) (point y) (point z) ≡ point (f x y z)
hull3-point f x y z = join-same (hull2 (f x) (point y) (point z)) ∙ hull2-point (f x) y z

pub hull4-point : (f : ℤ → ℤ → ℤ → ℤ → ℤ) (x y z w : ℤ) →
    hull4 f (point x) (point y) (point z) (point w) ≡ point (f x y z w)
hull4-point f x y z w = join-same (hull3 (f x) (point y) (point z) (point w)) ∙ hull3-point (f x) y z w

pub hull5-point : (f : ℤ → ℤ → ℤ → ℤ → ℤ → ℤ) (x y z w u : ℤ) →
    hull5 f (point x) (point y) (point z) (point w) (point u) ≡ point (f x y z w u)
hull5-point f x y z w u = join-same (hull4 (f x) (point y) (point z) (point w) (point u)) ∙ hull4-point (f x) y z w u
