-- An order of the streams of a plan: each stands in it once.
use Rattle.std.proofs.Common.{◌≡◌, ◌∙◌, ℕ, zero, suc, ◌+◌, ◌<◌, ◌≤◌, List, [], ◌∷◌, ◌++◌, length, take, drop, Contains}
use Rattle.std.proofs.Common.{refl, ap, subst, arith, inl, inr, cond, eq-eqb}
use Rattle.std.specs.Prelude.{All, slice_index, count_by, ◌==◌}
use Rattle.std.specs.List.{range_with_len}
use Rattle.std.proofs.lemmas.Bool.{cases_eq}
use Rattle.std.proofs.lemmas.Bool.Decides.{nat_tests}
use Rattle.std.proofs.lemmas.List.{take-append-drop}
use Rattle.std.proofs.lemmas.List.Elements.{All-cons, All-nil, All-get_or}
use Rattle.std.proofs.lemmas.List.FromFn.{length-range_with_len, get_or-range_with_len}
use Rattle.std.proofs.lemmas.List.Sorted.{All-permutation, Contains-permutation}
use Rattle.std.proofs.lemmas.List.Sorted.{length_permutation, sum_by-IsPermutation}
use Rattle.std.proofs.lemmas.List.Sums.{sum_by-append, sum_by-cons}
use Rattle.plant_streams.specs.Streams.{streams_of}
use Rattle.renewal.specs.Plan.{PlanOf}
use Rattle.relax_core.specs.Order.{IsOrder}

-- the numbers from a on, one more
pub range-more : (a n : ℕ) → range_with_len a (suc n) ≡ range_with_len a n ++ (a + n) ∷ []
range-more a zero = ap (λ x. x ∷ []) (omega arith)
range-more a (suc n) =
    ap (λ list. a ∷ list) (range-more (a + 1) n ∙ ap (λ x. range_with_len (a + 1) n ++ x ∷ []) (omega arith))

abbrev marks : ℕ → ℕ → ℕ
marks s r = cond (r == s) 1 0

-- none of them is less
range-above : (a n s : ℕ) → s < a → count_by (λ r. r == s) (range_with_len a n) ≡ 0
range-above a zero s l = refl
range-above a (suc n) s l =
    let other : marks s a ≡ 0 = grind (arith, nat_tests) in
    omega (arith, sum_by-cons (marks s) a (range_with_len (a + 1) n), other, range-above (a + 1) n s (omega arith))

-- each stands there once
range-once : (a n s : ℕ) → count_by (λ r. r == s) (range_with_len a n) ≤ 1
range-once a zero s = omega arith
range-once a (suc n) s = elim (cases_eq a s) [
  | inl e ↦
      (let one : marks s a ≤ 1 = subst (λ i. marks i a ≤ 1) e (rw (eq-eqb a a refl) omega arith) in
      omega (arith, sum_by-cons (marks s) a (range_with_len (a + 1) n), one, range-above (a + 1) n s (omega arith)))
  | inr ne ↦
      (let other : marks s a ≡ 0 = grind (arith, nat_tests) in
      omega (arith, sum_by-cons (marks s) a (range_with_len (a + 1) n), other, range-once (a + 1) n s))
]

range-below : (a n b : ℕ) → a + n ≤ b → All (λ s. s < b) (range_with_len a n)
range-below a zero b l = All-nil (λ s. s < b)
range-below a (suc n) b l =
    All-cons (λ s. s < b) a (range_with_len (a + 1) n) (omega arith) (range-below (a + 1) n b (omega arith))

module _ (plan : PlanOf) (order : List ℕ) (is : IsOrder plan order) where
  -- it has no other streams
  pub order-there : (i : ℕ) → i < length order → slice_index order i < length (streams_of plan.parts)
  order-there i l = All-get_or (λ s. s < length (streams_of plan.parts)) order i 0 l
      (All-permutation (λ s. s < length (streams_of plan.parts))
      (range_with_len 0 (length (streams_of plan.parts))) order is
      (range-below 0 (length (streams_of plan.parts)) (length (streams_of plan.parts)) (omega arith)))

  pub order-once : (s : ℕ) → count_by (λ r. r == s) order ≤ 1
  order-once s = omega (
    arith,
    sum_by-IsPermutation (marks s) (range_with_len 0 (length (streams_of plan.parts))) order is,
    range-once 0 (length (streams_of plan.parts)) s,
  )

  pub order-covers : (s : ℕ) → s < length (streams_of plan.parts) → Contains order s
  order-covers s l = Contains-permutation (range_with_len 0 (length (streams_of plan.parts))) order s is (
    s,
    omega (arith, length-range_with_len 0 (length (streams_of plan.parts))),
    get_or-range_with_len 0 (length (streams_of plan.parts)) s s l ∙ omega arith,
  )

  pub order-length : length order ≡ length (streams_of plan.parts)
  order-length = length_permutation (range_with_len 0 (length (streams_of plan.parts))) order is
      ∙ length-range_with_len 0 (length (streams_of plan.parts))

  -- also among the first of them
  pub front-once : (n s : ℕ) → count_by (λ r. r == s) (take n order) ≤ 1
  front-once n s =
      omega (
        arith,
        sum_by-append (marks s) (take n order) (drop n order),
        ap (count_by (λ r. r == s)) (take-append-drop n order),
        order-once s,
      )
