-- The first place without a common number, and the first with different bands, found in the lists that two tubes
-- are kept as.
use Rattle.std.proofs.Common.{◌≡◌, ℕ, suc, ◌+◌, ◌*◌, ◌/◌, ◌%◌, ◌<◌, ◌≤◌, slice_index_or, Some, List, [], length, sym, subst, ap, ◌∙◌, arith, inl, inr}
use Rattle.std.proofs.lemmas.Int.{ints, clamps}
use Rattle.std.proofs.Math.Nat.{mul-le-mul_right, div-lt_iff_lt-mul, mod-lt}
use Rattle.std.proofs.lemmas.Nat.{div-add-mod'}
use Rattle.std.specs.Int.{int_max, int_min}
use Rattle.std.specs.Prelude.{◌≤ℤ◌}
use Rattle.std.proofs.lemmas.List.{length-map}
use Rattle.std.proofs.Math.ListN.{get_or-map}
use Rattle.std.proofs.lemmas.Bool.{cases_lt}
use Rattle.quant.specs.Interval.{Interval, IsBand}
use Rattle.relaxation.specs.Tube.{Tube, at, meet_bands}
use Rattle.tubes.specs.Cut.{cut}
use Rattle.tubes.specs.Flat.{common, nth}
use Rattle.tubes.specs.Shape.{HasShapeOf, band_at}
use Rattle.tubes.specs.Meeting.{HasCommon, IsEarlier, IsFirstEmpty, IsFirstDifference}
use Rattle.tubes.specs.Flat.{IsFirstApart, IsFirstDifferent}
use Rattle.tubes.proofs.Flats.{meet_at}
use Rattle.tubes.proofs.Cuts.{cut_counted}
use Rattle.tubes.proofs.Places.{row_length, channel_there, place_there, place_is}
use Rattle.tubes.proofs.Shapes.{as_long, as_other}

-- bands have a number in common where their meet has one
pub common-has : (A B : Interval) → IsBand (common A B) → HasCommon A B
common-has A B m = (
  int_max A.lo B.lo,
  record { above = omega (arith, ints, clamps); below = (let le : int_max A.lo B.lo ≤ℤ int_min A.hi B.hi = m.ordered in omega (arith, ints, clamps)) },
  record { above = omega (arith, ints, clamps); below = (let le : int_max A.lo B.lo ≤ℤ int_min A.hi B.hi = m.ordered in omega (arith, ints, clamps)) },
)

pub has-common : (A B : Interval) → HasCommon A B → IsBand (common A B)
has-common A B (z, a, b) = record { ordered = omega (arith, ints, clamps) }

-- a place by its tick and its channel
no-place : (c i n : ℕ) → c ≡ 0 → i < n * c → ⊥
no-place c i n e h = (let nothing : n * c ≡ 0 = rw e (omega arith) in omega arith)

below : (c i n : ℕ) → i < n * c → i / c < n
below c i n h = elim (cases_lt 0 c) [
  | inl some ↦ (div-lt_iff_lt-mul some).1 h
  | inr none ↦ (let nothing : c ≡ 0 = omega arith in absurd (no-place c i n nothing h))
]

channel-below : (c i n : ℕ) → i < n * c → i % c < c
channel-below c i n h = elim (cases_lt 0 c) [
  | inl some ↦ mod-lt i some
  | inr none ↦ (let nothing : c ≡ 0 = omega arith in absurd (no-place c i n nothing h))
]

earlier : (c s d t e : ℕ) → d < c → IsEarlier s d t e → s * c + d < t * c + e
earlier c s d t e k (inl lt) = (let l : suc s * c ≤ t * c = mul-le-mul_right c lt in omega arith)
earlier c s d t e k (inr (same, lt)) = rw same (omega arith)

module _ (n c m d : ℕ) (xs ys : List Interval) (A B : Tube) (a : cut n c xs ≡ A) (b : cut m d ys ≡ B)
    (size : length xs ≡ n * c) (other : length ys ≡ m * d) (h : HasShapeOf A B) where
  cut-other : cut n c ys ≡ B
  cut-other = as_other n c m d xs ys A B a b size other h

  size-other : length ys ≡ n * c
  size-other = sym (as_long n c m d xs ys A B a b size other h) ∙ size

  ticks-other : length A ≡ length B
  ticks-other = sym (length-map A length) ∙ (ap length h ∙ length-map B length)

  channels-other : (t : ℕ) → length (at A t) ≡ length (at B t)
  channels-other t = sym (get_or-map length A t []) ∙ (ap (λ ls. slice_index_or ls t 0) h ∙ get_or-map length B t [])

  -- the bands that stand at a place
  own-place : (t e : ℕ) → t < length A → e < length (at A t) → nth xs (t * c + e) ≡ band_at A t e
  own-place t e k l = place_is n c xs A a size t k e l

  other-place : (t e : ℕ) → t < length A → e < length (at A t) → nth ys (t * c + e) ≡ band_at B t e
  other-place t e k l =
      place_is n c ys B cut-other size-other t (subst (λ k. t < k) ticks-other k) e (subst (λ k. e < k)
      (channels-other t) l)

  at-place : (t e : ℕ) → t < length A → e < length (at A t) →
      nth (meet_bands xs ys) (t * c + e) ≡ common (band_at A t e) (band_at B t e)
  at-place t e k l =
      meet_at xs ys (t * c + e) (place_there n c xs A a size t k e l) (as_long n c m d xs ys A B a b size other h)
      ∙ (ap (λ C. common C (nth ys (t * c + e))) (own-place t e k l) ∙ ap (common (band_at A t e)) (other-place
      t e k l))

  -- a place of the lists is a place of the tubes
  module _ (i : ℕ) (there : i < length xs) where
    inside : i < n * c
    inside = subst (λ k. i < k) size there

    pub tick_is_there : i / c < length A
    tick_is_there = subst (λ k. i / c < k) (sym (sym (ap length a) ∙ cut_counted n c xs)) (below c i n inside)

    pub channel_is_there : i % c < length (at A (i / c))
    channel_is_there = subst (λ k. i % c < k) (sym (row_length n c xs A a size (i / c) tick_is_there))
        (channel-below c i n inside)

    -- and an earlier place of the tubes one of the lists before it
    before-it : (s e : ℕ) → s < length A → e < length (at A s) → IsEarlier s e (i / c) (i % c) → s * c + e < i
    before-it s e k l before =
        subst (λ j. s * c + e < j) (div-add-mod' i c) (earlier c s e (i / c) (i % c) (channel_there n c xs A a
        size s k e l) before)

    pub tick_fits : i / c < n
    tick_fits = below c i n inside

  -- the first place of the lists is the first place of the tubes
  pub first_is : (i : ℕ) → IsFirstApart (Some i) xs ys → IsFirstEmpty A B (i / c) (i % c)
  first_is i found = record {
    tick = tick_is_there i found.0;
    channel = channel_is_there i found.0;
    empty = λ common. found.1 (subst IsBand
        (sym (at-place (i / c) (i % c) (tick_is_there i found.0) (channel_is_there i found.0)) ∙ ap (nth
        (meet_bands xs ys)) (div-add-mod' i c))
        (has-common _ _ common));
    first = λ s d k l before. common-has _ _ (subst IsBand (at-place s d k l) (found.2 (s * c + d) (before-it i
        found.0 s d k l before)));
  }

  pub first_difference_is : (i : ℕ) → IsFirstDifferent (Some i) xs ys → IsFirstDifference A B (i / c) (i % c)
  first_difference_is i found = record {
    tick = tick_is_there i found.0;
    channel = channel_is_there i found.0;
    differ = λ same. found.1 (
        sym (ap (nth xs) (div-add-mod' i c))
        ∙ (own-place (i / c) (i % c) (tick_is_there i found.0) (channel_is_there i found.0)
        ∙ (same
        ∙ (sym (other-place (i / c) (i % c) (tick_is_there i found.0) (channel_is_there i found.0)) ∙ ap (nth
        ys) (div-add-mod' i c)))));
    first = λ s d k l before.
        sym (own-place s d k l) ∙ (found.2 (s * c + d) (before-it i found.0 s d k l before) ∙ other-place s d k l);
  }

  -- one list is one tube
  pub same_tubes : xs ≡ ys → A ≡ B
  same_tubes e = sym a ∙ (ap (cut n c) e ∙ cut-other)
