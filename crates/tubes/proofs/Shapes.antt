-- Two tubes of one shape, by the lists that they are kept as.
use Rattle.std.proofs.Common.{◌≡◌, ◌↔◌, ℕ, zero, suc, ◌*◌, ◌/◌, ◌<◌, List, length, map, replicate, slice_index_or, refl, sym, subst, ap, ◌∙◌, arith, true, nat_eq, ◌≢◌}
use Rattle.std.proofs.Math.Nat.{mul-div_cancel_left}
use Rattle.std.proofs.lemmas.List.{length-replicate}
use Rattle.quant.specs.Interval.{Interval, AllBands}
use Rattle.relaxation.specs.Tube.{Tube, all_inside, is_within, meet_bands, meet, HasNumbers}
use Rattle.tubes.specs.Cut.{cut}
use Rattle.tubes.specs.Shape.{HasShapeOf}
use Rattle.tubes.proofs.Cuts.{cut_shape, cut_inside, cut_meet, cut_numbers}

-- rows of one length in two shapes
first-row : (n c m d : ℕ) → replicate (suc n) c ≡ replicate (suc m) d → c ≡ d
first-row n c m d s = ap (λ cs. slice_index_or cs 0 0) s

as-many : (n c m d : ℕ) → replicate n c ≡ replicate m d → n ≡ m
as-many n c m d s = sym (length-replicate n c) ∙ (ap length s ∙ length-replicate m d)

-- the other list cut as the first one is
alike : (n c m d : ℕ) (ys : List Interval) → replicate n c ≡ replicate m d → cut m d ys ≡ cut n c ys
alike zero c zero d ys s = refl
alike zero c (suc m) d ys s = cc
alike (suc n) c zero d ys s = cc
alike (suc n) c (suc m) d ys s = rw (first-row n c m d s) (ap (λ k. cut k d ys) (sym (as-many (suc n) c (suc m) d s)))

-- as many bands
same-size : (n c m d : ℕ) → replicate n c ≡ replicate m d → n * c ≡ m * d
same-size zero c zero d s = omega arith
same-size zero c (suc m) d s = cc
same-size (suc n) c zero d s = cc
same-size (suc n) c (suc m) d s = rw (first-row n c m d s) (ap (λ k. k * d) (as-many (suc n) c (suc m) d s))

-- and as many ticks and bands are one shape
one-shape : (n c d : ℕ) → n * c ≡ n * d → replicate n c ≡ replicate n d
one-shape zero c d e = refl
one-shape (suc n) c d e =
    let there : zero < suc n = omega arith in
    ap (replicate (suc n)) (sym (mul-div_cancel_left c there) ∙ (ap (λ k. k / suc n) e ∙ mul-div_cancel_left d there))

eqb-yes : (k l : ℕ) → nat_eq k l ≡ true → k ≡ l
eqb-yes k l e = grind arith

eqb-same : (k l : ℕ) → k ≡ l → nat_eq k l ≡ true
eqb-same k l e = grind arith

-- two tubes that are kept as lists
module _ (n c m d : ℕ) (xs ys : List Interval) (A B : Tube) (a : cut n c xs ≡ A) (b : cut m d ys ≡ B)
    (size : length xs ≡ n * c) (other : length ys ≡ m * d) where
  shapes : HasShapeOf A B → replicate n c ≡ replicate m d
  shapes h =
      sym (cut_shape n c xs size) ∙ (ap (map length) a ∙ (h ∙ (ap (map length) (sym b) ∙ cut_shape m d ys other)))

  pub as_long : HasShapeOf A B → length xs ≡ length ys
  as_long h = size ∙ (same-size n c m d (shapes h) ∙ sym other)

  pub as_other : HasShapeOf A B → cut n c ys ≡ B
  as_other h = sym (alike n c m d ys (shapes h)) ∙ b

  pub as_many : HasShapeOf A B → n ≡ m
  as_many h = as-many n c m d (shapes h)

  pub has_shape : n ≡ m → length xs ≡ length ys → HasShapeOf A B
  has_shape e l =
      ap (map length) (sym a)
      ∙ (cut_shape n c xs size
      ∙ (one-shape n c d (sym size ∙ (l ∙ (other ∙ ap (λ k. k * d) (sym e))))
      ∙ (ap (λ k. replicate k d) e
      ∙ (sym (cut_shape m d ys other) ∙ ap (map length) b))))

  module _ (h : HasShapeOf A B) where
    sized : length ys ≡ n * c
    sized = sym (as_long h) ∙ size

    pub inside_is : all_inside xs ys ≡ is_within A B
    inside_is = sym (cut_inside n c xs ys size sized) ∙ (ap (λ C. is_within C (cut n c ys)) a ∙ ap (is_within A) (as_other h))

    pub meet_is : cut n c (meet_bands xs ys) ≡ meet A B
    meet_is = cut_meet n c xs ys ∙ (ap (λ C. meet C (cut n c ys)) a ∙ ap (meet A) (as_other h))

    pub meet_numbers : AllBands (meet_bands xs ys) → HasNumbers (meet A B)
    meet_numbers all = subst HasNumbers meet_is (cut_numbers n c (meet_bands xs ys) all)

  pub fits_is : (k l : ℕ) → k ≡ length xs → l ≡ length ys → n ≡ m → (nat_eq k l ≡ true) ↔ HasShapeOf A B
  fits_is k l f g e = (
    (λ same. has_shape e (sym f ∙ (eqb-yes k l same ∙ g))),
    (λ h. eqb-same k l (f ∙ (as_long h ∙ sym g))),
  )

  pub fits_not : (n ≢ m) → (nat_eq n m ≡ true) ↔ HasShapeOf A B
  fits_not apart = ((λ same. absurd (apart (eqb-yes n m same))), (λ h. absurd (apart (as_many h))))
