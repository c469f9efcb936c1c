-- The corners of bands at which an operation is least and greatest.
use Rattle.std.proofs.Common.{◌≡◌, ℤ, pos, ◌*ℤ◌, ◌≤ℤ◌, FitsSigned, to_z, of_z, arith, sym, refl, ap, ◌∙◌, ◌⊎◌, inl, inr, subst, neg_ℤ}
use Rattle.std.proofs.lemmas.Int.{ints, clamps, to_z-of_z, by_lt_z}
use Rattle.std.specs.Int.{w64}
use Rattle.quant.specs.Interval.{Interval, Holds, IsBand, IsInside, join, point}
use Rattle.quant.specs.Hull.{hull2, hull4, IsHull, IsValue1, IsValue2, IsValue4, IsValue5, IsMonotone2, IsMonotone4}
use Rattle.quant.specs.Rounding.{Rounding}
use Rattle.quant.specs.Operation.{share, keep, blend, mix, tray, million, stage_flows, slopes, IsDrainable}
use Rattle.quant.specs.Picks.{IsPicked}
use Rattle.quant.proofs.Bands.{IsRead}
use Rattle.quant.proofs.Operations.{IsDrawn, rises, monotone4, drawn-monotone, share-rises, share-drawn, share-between, keep-rises, keep-drawn, keep-between, blend-rises, blend-part, blend-volume, blend-between}
use Rattle.quant.proofs.Calls.{given2, given4}
use Rattle.quant.proofs.Division.{times-le}
use Rattle.quant.proofs.Hulls.{holds-band, inside-holds, one_hull, hull2-exact, hull4-exact}
use Rattle.quant.proofs.Stages.{IsPushed, tray-contents, tray-liquid, tray-vapour}
use Rattle.quant.proofs.Mixing.{mix-rises, mix-first_flow, mix-second_flow, mix-between}

-- z is the first number, and c is not above d; or it is the second, and c is not below d
abbrev pub Takes : ℤ → ℤ → ℤ → ℤ → ℤ → Type 0
Takes c d first second z = ((c ≤ℤ d) × (z ≡ first)) ⊎ ((d ≤ℤ c) × (z ≡ second))

-- what is picked is taken, seen from either side, also where it was picked by equal numbers
pub takes : (c d u w C D U W z : ℤ) → c ≡ C → d ≡ D → u ≡ U → w ≡ W → IsPicked c d u w z → Takes C D U W z
takes c d u w C D U W z e f g h p =
    by_lt_z d c
    (λ l. inr (omega (arith, ints), p.turned l ∙ h))
    (λ l. inl (omega (arith, ints), p.ahead l ∙ g))

pub picked_same : (c d C D u w z Z : ℤ) → c ≡ C → d ≡ D → z ≡ Z → IsPicked c d u w z → IsPicked C D u w Z
picked_same c d C D u w z Z e f g p = record {
  ahead = λ l. sym g ∙ p.ahead (omega (arith, ints));
  turned = λ l. sym g ∙ p.turned (omega (arith, ints));
}

pub takes_back : (c d u w z : ℤ) → Takes c d u w z → Takes d c w u z
takes_back c d u w z t = elim t [ inl p ↦ inr p | inr p ↦ inl p ]

-- the function is least over the interval at this number of it, or greatest
pub record IsLeastAt (f : ℤ → ℤ) (G : Interval) (x : ℤ) : Type 0 where
  pub holds : Holds G x
  pub least : (u : ℤ) → Holds G u → f x ≤ℤ f u

pub record IsGreatestAt (f : ℤ → ℤ) (G : Interval) (x : ℤ) : Type 0 where
  pub holds : Holds G x
  pub greatest : (u : ℤ) → Holds G u → f u ≤ℤ f x

low-holds : (G : Interval) (x : ℤ) → IsBand G → x ≡ G.lo → Holds G x
low-holds G x b e = let o = b.ordered in record { above = omega (arith, ints); below = omega (arith, ints) }

high-holds : (G : Interval) (x : ℤ) → IsBand G → x ≡ G.hi → Holds G x
high-holds G x b e = let o = b.ordered in record { above = omega (arith, ints); below = omega (arith, ints) }

-- what is taken of two ends lies between them
pub takes-held : (c d : ℤ) (G : Interval) (x : ℤ) → IsBand G → Takes c d G.hi G.lo x → Holds G x
takes-held c d G x b t = elim t [ inl p ↦ high-holds G x b p.1 | inr p ↦ low-holds G x b p.1 ]

-- what is drawn is least at the end that it is drawn from, and greatest at the other
pub drawn-least : (c d : ℤ) (f : ℤ → ℤ) (G : Interval) (x : ℤ) → IsDrawn c d f → IsBand G → Takes c d G.lo G.hi x →
    IsLeastAt f G x
drawn-least c d f G x h b t = elim t [
  | inl p ↦ record {
    holds = low-holds G x b p.1;
    least = λ u k. omega (arith, ints, ap f p.1, h.up G.lo u p.0 k.above);
  }
  | inr p ↦ record {
    holds = high-holds G x b p.1;
    least = λ u k. omega (arith, ints, ap f p.1, h.down u G.hi p.0 k.below);
  }
]

-- what is negated is drawn back
negated : (c d : ℤ) (f : ℤ → ℤ) → IsDrawn c d f → IsDrawn d c (λ x. neg_ℤ (f x))
negated c d f h = record {
  up = λ x y p l. omega (arith, ints, h.down x y p l);
  down = λ x y p l. omega (arith, ints, h.up x y p l);
}

pub drawn-greatest : (c d : ℤ) (f : ℤ → ℤ) (G : Interval) (x : ℤ) → IsDrawn c d f → IsBand G → Takes c d G.hi G.lo x →
    IsGreatestAt f G x
drawn-greatest c d f G x h b t =
    let k = drawn-least d c (λ u. neg_ℤ (f u)) G x (negated c d f h) b (takes_back c d G.hi G.lo x t) in
    record { holds = k.holds; greatest = λ u l. omega (arith, ints, k.least u l) }

-- the ends of an exact hull are in order
pub hull-ordered : (V : ℤ → Type 0) (R : Interval) → IsHull V R → R.lo ≤ℤ R.hi
hull-ordered V R h = (h.holds R.lo h.low).below

-- an exact hull that was made is the hull over the corners, where this is exact too
pub record IsMade (V : ℤ → Type 0) (H R : Interval) : Type 0 where
  pub ordered : R.lo ≤ℤ R.hi
  pub hull : R ≡ H
  pub exact : IsHull V R

pub made : (V : ℤ → Type 0) (H R : Interval) → IsHull V R → IsHull V H → IsMade V H R
made V H R r h = record { ordered = hull-ordered V R r; hull = one_hull V R H r h; exact = r }

-- the hull of what is drawn lies between its values at the two ends
pub drawn-hull : (c d : ℤ) (f : ℤ → ℤ) (A : Interval) (x y p q : ℤ) → IsDrawn c d f → IsBand A →
    Takes c d A.lo A.hi x → Takes c d A.hi A.lo y → p ≡ f x → q ≡ f y →
    IsHull (IsValue1 f A) (record { lo = p; hi = q })
drawn-hull c d f A x y p q h b t s e g =
    let low = drawn-least c d f A x h b t in
    let high = drawn-greatest c d f A y h b s in
    record {
      holds = λ z v. record {
        above = omega (arith, ints, low.least v.0 v.1, v.2);
        below = omega (arith, ints, high.greatest v.0 v.1, v.2);
      };
      low = (x, low.holds, sym e);
      high = (y, high.holds, sym g);
    }

-- what shares its first argument out: it rises with it, the second draws it by the sign of the first, and it lies from
-- 0 to the first
pub record IsSharing (f : ℤ → ℤ → ℤ) (C D : ℤ → ℤ) : Type 0 where
  pub rises : (a b g : ℤ) → a ≤ℤ b → f a g ≤ℤ f b g
  pub drawn : (a : ℤ) → IsDrawn (C a) (D a) (f a)
  pub between : (a g : ℤ) → Holds (join (point (pos 0)) (point a)) (f a g)

pub share-shares : (r : Rounding) → IsSharing (share r) (λ a. pos 0) (λ a. a)
share-shares r = record { rises = share-rises r; drawn = share-drawn r; between = share-between r }

pub keep-shares : (r : Rounding) → IsSharing (keep r) (λ a. a) (λ a. pos 0)
keep-shares r = record { rises = keep-rises r; drawn = keep-drawn r; between = keep-between r }

-- the hull of such an operation over bands
abbrev pub IsShared : (ℤ → ℤ → ℤ) → Interval → Interval → Interval → Type 0
IsShared f A G R = IsMade (IsValue2 f A G) (hull2 f A G) R × IsInside R (join (point (pos 0)) A)

value-between : (f : ℤ → ℤ → ℤ) → ((a g : ℤ) → Holds (join (point (pos 0)) (point a)) (f a g)) →
    (A G : Interval) (z : ℤ) →
    IsValue2 f A G z → Holds (join (point (pos 0)) A) z
value-between f h A G z v =
    let a = v.1 in
    let k = h v.0 v.2.0 in
    let e = v.2.2 in
    record { above = omega (arith, ints, clamps); below = omega (arith, ints, clamps) }

-- it lies between the values at the ends of the first, each at the end of the second that its sign picks
pub shared : (f : ℤ → ℤ → ℤ) (C D : ℤ → ℤ) → IsSharing f C D → (I A G : Interval) (x y r s : ℤ) → IsRead I A →
    IsBand G → Takes (C A.lo) (D A.lo) G.lo G.hi x → Takes (C A.hi) (D A.hi) G.hi G.lo y →
    FitsSigned w64 x → FitsSigned w64 y → FitsSigned w64 r → FitsSigned w64 s →
    r ≡ f (to_z w64 (of_z w64 I.lo)) (to_z w64 (of_z w64 x)) →
    s ≡ f (to_z w64 (of_z w64 I.hi)) (to_z w64 (of_z w64 y)) →
    IsShared f A G (record { lo = to_z w64 (of_z w64 r); hi = to_z w64 (of_z w64 s) })
shared f C D sharing I A G x y r s i g t u h k fr fs m n =
    let low = drawn-least (C A.lo) (D A.lo) (f A.lo) G x (sharing.drawn A.lo) g t in
    let high = drawn-greatest (C A.hi) (D A.hi) (f A.hi) G y (sharing.drawn A.hi) g u in
    let p : to_z w64 (of_z w64 r) ≡ f A.lo x = given2 f _ _ r A.lo x fr m i.ends.0 (to_z-of_z w64 x h) in
    let q : to_z w64 (of_z w64 s) ≡ f A.hi y = given2 f _ _ s A.hi y fs n i.ends.1 (to_z-of_z w64 y k) in
    let exact : IsHull (IsValue2 f A G) (record { lo = to_z w64 (of_z w64 r); hi = to_z w64 (of_z w64 s) }) = record {
      holds = λ z v. record {
        above = omega (arith, ints, p, low.least v.2.0 v.2.1, sharing.rises A.lo v.0 v.2.0 v.1.above, v.2.2);
        below = omega (arith, ints, q, high.greatest v.2.0 v.2.1, sharing.rises v.0 A.hi v.2.0 v.1.below, v.2.2);
      };
      low = (A.lo, low-holds A A.lo i.band refl, (x, low.holds, sym p));
      high = (A.hi, high-holds A A.hi i.band refl, (y, high.holds, sym q));
    } in
    let monotone : IsMonotone2 f = (
      (λ b. rises (λ a. f a b) (λ a c l. sharing.rises a c b l)),
      (λ a. drawn-monotone (C a) (D a) (f a) (sharing.drawn a)),
    ) in (
      made _ _ _ exact (hull2-exact f A G i.band g monotone),
      record {
        above = (value-between f sharing.between A G _ exact.low).above;
        below = (value-between f sharing.between A G _ exact.high).below;
      },
    )

-- the first argument is drawn by c and d, and the second by e and g
pub record AreDrawn (c d e g : ℤ) (f : ℤ → ℤ → ℤ) : Type 0 where
  pub first : (v : ℤ) → IsDrawn c d (λ x. f x v)
  pub second : (m : ℤ) → IsDrawn e g (f m)

-- the number is a value at numbers of the intervals, and no other is less, or greater
pub record IsLeastOver (f : ℤ → ℤ → ℤ) (A B : Interval) (p : ℤ) : Type 0 where
  pub found : IsValue2 f A B p
  pub least : (u v : ℤ) → Holds A u → Holds B v → p ≤ℤ f u v

pub record IsGreatestOver (f : ℤ → ℤ → ℤ) (A B : Interval) (p : ℤ) : Type 0 where
  pub found : IsValue2 f A B p
  pub greatest : (u v : ℤ) → Holds A u → Holds B v → f u v ≤ℤ p

pub least-drawn : (c d e g : ℤ) (f : ℤ → ℤ → ℤ) (A B : Interval) (x y p : ℤ) → AreDrawn c d e g f → IsBand A →
    IsBand B →
    Takes c d A.lo A.hi x → Takes e g B.lo B.hi y → p ≡ f x y → IsLeastOver f A B p
least-drawn c d e g f A B x y p h a b t s i =
    let first : (v : ℤ) → IsLeastAt (λ u. f u v) A x = λ v. drawn-least c d (λ u. f u v) A x (h.first v) a t in
    let second = drawn-least e g (f x) B y (h.second x) b s in
    record {
      found = (x, (first y).holds, (y, second.holds, sym i));
      least = λ u v k l. omega (arith, ints, i, second.least v l, (first v).least u k);
    }

pub greatest-drawn : (c d e g : ℤ) (f : ℤ → ℤ → ℤ) (A B : Interval) (x y p : ℤ) → AreDrawn c d e g f → IsBand A →
    IsBand B →
    Takes c d A.hi A.lo x → Takes e g B.hi B.lo y → p ≡ f x y → IsGreatestOver f A B p
greatest-drawn c d e g f A B x y p h a b t s i =
    let back : AreDrawn d c g e (λ u v. neg_ℤ (f u v)) = record {
      first = λ v. negated c d (λ u. f u v) (h.first v);
      second = λ u. negated e g (f u) (h.second u);
    } in
    let k = least-drawn d c g e (λ u v. neg_ℤ (f u v)) A B x y (neg_ℤ p) back a b (takes_back c d A.hi A.lo x t)
    (takes_back e g B.hi B.lo y s) (ap neg_ℤ i) in
    let z = k.found in
    record {
      found = (z.0, z.1, (z.2.0, z.2.1, omega (arith, ints, z.2.2)));
      greatest = λ u v m n. omega (arith, ints, k.least u v m n);
    }

-- z lies between a value of f and one of g, both at the same numbers of the intervals
record LiesOver (f g : ℤ → ℤ → ℤ) (A B : Interval) (z : ℤ) : Type 0 where
  first : ℤ
  second : ℤ
  held : Holds A first × Holds B second
  above : f first second ≤ℤ z
  below : z ≤ℤ g first second

-- so where all values lie so, their hull goes from the least of f to the greatest of g, which are values too
corner-hull : (V : ℤ → Type 0) (f g : ℤ → ℤ → ℤ) (A B : Interval) (p q : ℤ) → ((z : ℤ) → V z → LiesOver f g A B z) →
    V p → V q → IsLeastOver f A B p → IsGreatestOver g A B q → IsHull V (record { lo = p; hi = q })
corner-hull V f g A B p q over at_low at_high low high = record {
  holds = λ z v.
      let k = over z v in
      record {
        above = omega (arith, ints, low.least k.first k.second k.held.0 k.held.1, k.above);
        below = omega (arith, ints, high.greatest k.first k.second k.held.0 k.held.1, k.below);
      };
  low = at_low;
  high = at_high;
}

-- that of what rises with its first two arguments, from the least at their lower to the greatest at their upper ends
corners4 : (f : ℤ → ℤ → ℤ → ℤ → ℤ) → ((a b c d m v : ℤ) → a ≤ℤ b → c ≤ℤ d → f a c m v ≤ℤ f b d m v) →
    (C D M V : Interval) (p q : ℤ) → IsBand C → IsBand D →
    IsLeastOver (f C.lo D.lo) M V p → IsGreatestOver (f C.hi D.hi) M V q →
    IsHull (IsValue4 f C D M V) (record { lo = p; hi = q })
corners4 f rises C D M V p q c d low high =
    corner-hull (IsValue4 f C D M V) (f C.lo D.lo) (f C.hi D.hi) M V p q
    (λ z v.
    record {
      first = v.2.2.0;
      second = v.2.2.2.0;
      held = (v.2.2.1, v.2.2.2.1);
      above = omega (arith, ints, rises C.lo v.0 D.lo v.2.0 v.2.2.0 v.2.2.2.0 v.1.above v.2.1.above, v.2.2.2.2);
      below = omega (arith, ints, rises v.0 C.hi v.2.0 D.hi v.2.2.0 v.2.2.2.0 v.1.below v.2.1.below, v.2.2.2.2);
    })
    (C.lo, low-holds C C.lo c refl, (D.lo, low-holds D D.lo d refl, low.found))
    (C.hi, high-holds C C.hi c refl, (D.hi, high-holds D D.hi d refl, high.found)) low high

-- what lies between its first two arguments has its hull between their bands
value-inside : (f : ℤ → ℤ → ℤ → ℤ → ℤ) → ((c d m v : ℤ) → Holds (join (point c) (point d)) (f c d m v)) →
    (C D M V : Interval) (z : ℤ) →
    IsValue4 f C D M V z → Holds (join C D) z
value-inside f between C D M V z v =
    let c = v.1 in
    let d = v.2.1 in
    let h = between v.0 v.2.0 v.2.2.0 v.2.2.2.0 in
    let e = v.2.2.2.2 in
    record { above = omega (arith, ints, clamps); below = omega (arith, ints, clamps) }

pub hull-inside_contents : (f : ℤ → ℤ → ℤ → ℤ → ℤ) → ((c d m v : ℤ) → Holds (join (point c) (point d)) (f c d m v)) →
    (C D M V R : Interval) → IsHull (IsValue4 f C D M V) R → IsInside R (join C D)
hull-inside_contents f between C D M V R h =
    record {
      above = (value-inside f between C D M V R.lo h.low).above;
      below = (value-inside f between C D M V R.hi h.high).below;
    }

-- what blends its first two arguments: it rises with both, the third draws from the first to the second and the fourth
-- back, and it lies between the two
pub record IsBlending (f : ℤ → ℤ → ℤ → ℤ → ℤ) : Type 0 where
  pub rises : (a b c d m v : ℤ) → a ≤ℤ b → c ≤ℤ d → f a c m v ≤ℤ f b d m v
  pub turned : (c d : ℤ) → AreDrawn c d d c (f c d)
  pub between : (c d m v : ℤ) → Holds (join (point c) (point d)) (f c d m v)

blending-monotone : (f : ℤ → ℤ → ℤ → ℤ → ℤ) → IsBlending f → IsMonotone4 f
blending-monotone f b = monotone4 f b.rises
    (λ c d v. drawn-monotone c d (λ m. f c d m v) ((b.turned c d).first v))
    (λ c d m. drawn-monotone d c (f c d m) ((b.turned c d).second m))

pub blend-blends : (r : Rounding) → IsBlending (blend r)
blend-blends r = record {
  rises = blend-rises r;
  turned = λ c d. record { first = blend-part r c d; second = blend-volume r c d };
  between = blend-between r;
}

-- a mix the other way, so with its flows exchanged
pub mix-blends : (r : Rounding) → IsBlending (λ c d n m. mix r c d m n)
mix-blends r = record {
  rises = λ a b c d n m. mix-rises r a b c d m n;
  turned = λ c d. record { first = λ m. mix-second_flow r c d m; second = λ n. mix-first_flow r c d n };
  between = λ c d n m. mix-between r c d m n;
}

-- the hull of such an operation over bands
abbrev pub IsBlended : (ℤ → ℤ → ℤ → ℤ → ℤ) → Interval → Interval → Interval → Interval → Interval → Type 0
IsBlended f C D A B R = IsMade (IsValue4 f C D A B) (hull4 f C D A B) R × IsInside R (join C D)

-- the lower end of one interval and the upper end of the other where c is not above d, and else the other end of each
pub record AreOpposite (c d : ℤ) (A B : Interval) (ends : ℤ × ℤ) : Type 0 where
  pub first : IsPicked c d A.lo A.hi ends.0
  pub second : IsPicked c d B.hi B.lo ends.1
  pub inside : Holds A ends.0 × Holds B ends.1

-- it lies between the values that are called at opposite ends
pub blended : (f : ℤ → ℤ → ℤ → ℤ → ℤ) → IsBlending f → (I J C D A B : Interval)
    (ends ends' : ℤ × ℤ) (r s : ℤ) → IsRead I C → IsRead J D →
    AreOpposite (to_z w64 (of_z w64 I.lo)) (to_z w64 (of_z w64 J.lo)) A B ends →
    AreOpposite (to_z w64 (of_z w64 I.hi)) (to_z w64 (of_z w64 J.hi)) B A ends' →
    FitsSigned w64 ends.0 → FitsSigned w64 ends.1 → FitsSigned w64 ends'.0 → FitsSigned w64 ends'.1 →
    FitsSigned w64 r → FitsSigned w64 s →
    r ≡ f (to_z w64 (of_z w64 I.lo)) (to_z w64 (of_z w64 J.lo)) (to_z w64 (of_z w64 ends.0))
    (to_z w64 (of_z w64 ends.1)) →
    s ≡ f (to_z w64 (of_z w64 I.hi)) (to_z w64 (of_z w64 J.hi)) (to_z w64 (of_z w64 ends'.1))
    (to_z w64 (of_z w64 ends'.0)) →
    IsBlended f C D A B (record { lo = to_z w64 (of_z w64 r); hi = to_z w64 (of_z w64 s) })
blended f b I J C D A B ends ends' r s i j o o' h k h' k' fr fs er es =
    let least = least-drawn C.lo D.lo D.lo C.lo (f C.lo D.lo) A B ends.0 ends.1 _ (b.turned C.lo D.lo)
    (holds-band A ends.0 o.inside.0) (holds-band B ends.1 o.inside.1)
    (takes _ _ A.lo A.hi _ _ _ _ _ i.ends.0 j.ends.0 refl refl o.first)
    (takes_back C.lo D.lo B.hi B.lo _ (takes _ _ B.hi B.lo _ _ _ _ _ i.ends.0 j.ends.0 refl refl o.second))
    (given4 f _ _ _ _ r C.lo D.lo ends.0 ends.1 fr er i.ends.0 j.ends.0 (to_z-of_z w64 ends.0 h)
    (to_z-of_z w64 ends.1 k)) in
    let greatest = greatest-drawn C.hi D.hi D.hi C.hi (f C.hi D.hi) A B ends'.1 ends'.0 _ (b.turned C.hi D.hi)
    (holds-band A ends.0 o.inside.0) (holds-band B ends.1 o.inside.1)
    (takes _ _ A.hi A.lo _ _ _ _ _ i.ends.1 j.ends.1 refl refl o'.second)
    (takes_back C.hi D.hi B.lo B.hi _ (takes _ _ B.lo B.hi _ _ _ _ _ i.ends.1 j.ends.1 refl refl o'.first))
    (given4 f _ _ _ _ s C.hi D.hi ends'.1 ends'.0 fs es i.ends.1 j.ends.1 (to_z-of_z w64 ends'.1 k')
    (to_z-of_z w64 ends'.0 h')) in
    let exact = corners4 f b.rises C D A B _ _ i.band j.band least greatest in (
      made _ _ _ exact (hull4-exact f C D A B i.band j.band (holds-band A ends.0 o.inside.0)
          (holds-band B ends.1 o.inside.1) (blending-monotone f b)),
      hull-inside_contents f b.between C D A B _ exact,
    )

-- and that of an operation with two arguments exchanged is the same
exchanged : (f : ℤ → ℤ → ℤ → ℤ → ℤ) (C D M N : Interval) (z : ℤ) → IsValue4 (λ c d n m. f c d m n) C D N M z →
    IsValue4 f C D M N z
exchanged f C D M N z v = (v.0, v.1, (v.2.0, v.2.1, (v.2.2.2.0, v.2.2.2.1, (v.2.2.0, v.2.2.1, v.2.2.2.2))))

pub blended-exchanged : (f : ℤ → ℤ → ℤ → ℤ → ℤ) (C D M N R : Interval) → IsMonotone4 f →
    IsBlended (λ c d n m. f c d m n) C D N M R → IsBlended f C D M N R
blended-exchanged f C D M N R monotone b =
    let at : IsValue4 f C D M N R.lo = exchanged f C D M N R.lo b.0.exact.low in
    let exact : IsHull (IsValue4 f C D M N) R = record {
      holds = λ z v. b.0.exact.holds z (exchanged (λ c d n m. f c d m n) C D N M z v);
      low = at;
      high = exchanged f C D M N R.hi b.0.exact.high;
    } in (
      made _ _ _ exact (hull4-exact f C D M N (holds-band C _ at.1) (holds-band D _ at.2.1) (holds-band M _ at.2.2.1)
          (holds-band N _ at.2.2.2.1) monotone),
      b.1,
    )

-- a stage is drawn by its two flows
pub tray-drawn : (r : Rounding) (holdup slope x xa yb : ℤ) →
    AreDrawn x xa (x *ℤ slope) (yb *ℤ million) (tray r holdup slope x xa yb)
tray-drawn r holdup slope x xa yb = record {
  first = tray-liquid r holdup slope x xa yb;
  second = tray-vapour r holdup slope x xa yb;
}

-- what may leave at the upper ends of the flows may leave at any
pub drainable-below : (holdup slope : ℤ) (L V : Interval) (y z : ℤ) → IsDrainable holdup slope L.hi V.hi →
    Holds slopes slope → Holds L y → Holds V z →
    IsDrainable holdup slope y z
drainable-below holdup slope L V y z d s h k =
    let n = times-le z V.hi slope s.above k.below in
    record { leaves = omega (arith, ints, d.leaves); passes = omega (arith, ints, d.passes) }

-- so what is read of a band of flows is one
pub flow-held : (L : Interval) (l : ℤ) → IsInside L stage_flows → Holds L l → FitsSigned w64 l →
    Holds stage_flows (to_z w64 (of_z w64 l))
flow-held L l i h f = subst (Holds stage_flows) (sym (to_z-of_z w64 l f)) (inside-holds L stage_flows l i h)

pub drainable-held : (holdup slope : ℤ) (L V : Interval) (l v : ℤ) → IsDrainable holdup slope L.hi V.hi →
    Holds slopes slope → Holds L l → Holds V v →
    FitsSigned w64 holdup → FitsSigned w64 slope → FitsSigned w64 l → FitsSigned w64 v →
    IsDrainable (to_z w64 (of_z w64 holdup)) (to_z w64 (of_z w64 slope)) (to_z w64 (of_z w64 l)) (to_z w64 (of_z w64 v))
drainable-held holdup slope L V l v d s h k f g i j =
    let a = to_z w64 (of_z w64 slope) in
    let b = to_z w64 (of_z w64 l) in
    let c = to_z w64 (of_z w64 v) in
    subst (λ (t : ℤ). IsDrainable t a b c) (sym (to_z-of_z w64 holdup f))
    (subst (λ (t : ℤ). IsDrainable holdup t b c) (sym (to_z-of_z w64 slope g))
    (subst (λ (t : ℤ). IsDrainable holdup slope t c) (sym (to_z-of_z w64 l i))
    (subst (IsDrainable holdup slope l) (sym (to_z-of_z w64 v j)) (drainable-below holdup slope L V l v d s h k))))

pub stage-pushes : (holdup slope : ℤ) (L V : Interval) → Holds slopes slope → IsInside L stage_flows →
    IsInside V stage_flows → IsDrainable holdup slope L.hi V.hi →
    (l v : ℤ) → Holds L l → Holds V v → IsPushed holdup slope l v
stage-pushes holdup slope L V s i j d l v h k =
    let e = drainable-below holdup slope L V l v d s h k in
    record { liquid = omega (arith, ints); vapour = omega (arith, ints); own = omega (arith, ints, e.leaves) }

-- so the hull of a stage lies between its values at the lower ends and at the upper ends of the contents
pub stage-corners : (r : Rounding) (holdup slope : ℤ) (X A B L V : Interval) (p q : ℤ) → IsBand X → IsBand A →
    IsBand B →
    ((l v : ℤ) → Holds L l → Holds V v → IsPushed holdup slope l v) →
    IsLeastOver (tray r holdup slope X.lo A.lo B.lo) L V p → IsGreatestOver (tray r holdup slope X.hi A.hi B.hi) L V q →
    IsHull (IsValue5 (tray r holdup slope) X A B L V) (record { lo = p; hi = q })
stage-corners r holdup slope X A B L V p q x a b pushes low high =
    corner-hull (IsValue5 (tray r holdup slope) X A B L V) (tray r holdup slope X.lo A.lo B.lo)
    (tray r holdup slope X.hi A.hi B.hi) L V p q
    (λ z t.
    let e = t.0 in
    let f = t.2.0 in
    let g = t.2.2.0 in
    let l = t.2.2.2.0 in
    let v = t.2.2.2.2.0 in
    let rise = tray-contents r holdup slope l v (pushes l v t.2.2.2.1 t.2.2.2.2.1) in
    record {
      first = l;
      second = v;
      held = (t.2.2.2.1, t.2.2.2.2.1);
      above = omega (arith, ints, rise X.lo A.lo B.lo e f g t.1.above t.2.1.above t.2.2.1.above, t.2.2.2.2.2);
      below = omega (arith, ints, rise e f g X.hi A.hi B.hi t.1.below t.2.1.below t.2.2.1.below, t.2.2.2.2.2);
    })
    (X.lo, low-holds X X.lo x refl, (A.lo, low-holds A A.lo a refl, (B.lo, low-holds B B.lo b refl, low.found)))
    (X.hi, high-holds X X.hi x refl, (A.hi, high-holds A A.hi a refl, (B.hi, high-holds B B.hi b refl, high.found)))
    low high
