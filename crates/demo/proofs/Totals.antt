-- Sums in parts.
use Rattle.std.proofs.Common.{◌≡◌, ◌∙◌, ℕ, zero, suc, ◌+◌, ◌<◌, ℤ, ◌+ℤ◌, List, [], ◌∷◌, ◌++◌, length, take, get_or, refl, ap, arith}
use Rattle.std.proofs.lemmas.Int.{ints}
use Rattle.std.proofs.lemmas.List.{take_more}
use Rattle.quant.specs.Interval.{Interval}
use Rattle.demo.specs.declared.sums.Sums.{Sums}
use Rattle.demo.specs.Summary.{sum_below, sum_of_bands, width_of, ends_of}
use Rattle.demo.specs.Adding.{AreSums}

-- sums of the same numbers are the same
pub sum-same : (f g : ℕ → ℤ) (n : ℕ) → ((k : ℕ) → k < n → f k ≡ g k) → sum_below n f ≡ sum_below n g
sum-same f g zero same = refl
sum-same f g (suc n) same =
    omega (arith, ints, sum-same f g n (λ k l. same k (omega arith)), same n (omega arith))

-- the numbers below m + n are those below m, and n more
pub sum-joined : (f : ℕ → ℤ) (m n : ℕ) → sum_below (m + n) f ≡ sum_below m f +ℤ sum_below n (λ k. f (m + k))
sum-joined f m zero = ap (λ n. sum_below n f) (let e : m + 0 ≡ m = omega arith in e) ∙ omega (arith, ints)
sum-joined f m (suc n) =
    ap (λ n. sum_below n f) (let e : m + suc n ≡ suc (m + n) = omega arith in e)
    ∙ omega (arith, ints, sum-joined f m n)

-- the bands of both lists
pub bands-append : (f : Interval → ℤ) (one other : List Interval) →
    sum_of_bands f (one ++ other) ≡ sum_of_bands f one +ℤ sum_of_bands f other
bands-append f [] other = omega (arith, ints)
bands-append f (band ∷ one) other = omega (arith, ints, bands-append f one other)

-- one band more
pub bands-more : (f : Interval → ℤ) (bands : List Interval) (i : ℕ) (d : Interval) → i < length bands →
    sum_of_bands f (take (i + 1) bands) ≡ sum_of_bands f (take i bands) +ℤ f (get_or bands i d)
bands-more f bands i d l =
    ap (sum_of_bands f) (take_more bands i d l)
    ∙ omega (arith, ints, bands-append f (take i bands) (get_or bands i d ∷ []))

-- what was added up, and what is added to it
pub added-up : (before added after : Sums) (so_far more all : (Interval → ℤ) → ℤ) → AreSums before so_far → AreSums added more →
    after.width ≡ before.width +ℤ added.width → after.ends ≡ before.ends +ℤ added.ends →
    ((f : Interval → ℤ) → all f ≡ so_far f +ℤ more f) → AreSums after all
added-up before added after so_far more all these others width ends joined = record {
  width = omega (arith, ints, width, these.width, others.width, joined width_of);
  ends = omega (arith, ints, ends, these.ends, others.ends, joined ends_of);
}
