-- How large sums can be.
use Rattle.std.proofs.Common.{◌≡◌, ℕ, zero, suc, ◌+◌, ◌*◌, ◌<◌, ◌≤◌, ◌^◌, ℤ, ◌+ℤ◌, List, [], ◌∷◌, length, take, get_or, sym, subst, arith}
use Rattle.std.specs.List.{AllByRecursion}
use Rattle.std.specs.Prelude.{slice_index_or}
use Rattle.std.proofs.lemmas.Int.{ints}
use Rattle.std.proofs.Math.Seq.{take-length}
use Rattle.quant.specs.Interval.{Interval, Holds, around}
use Rattle.relaxation.specs.Tube.{at}
use Rattle.relax_core.specs.Settled.{WindowOf}
use Rattle.demo.specs.declared.sums.Sums.{Sums}
use Rattle.demo.specs.Summary.{sum_below, sum_of_bands, width_of, ends_of}
use Rattle.demo.specs.Adding.{AreSums, AreFarInside, IsWideBand, IsSmallRow, IsSmallWindow, sum_at}

times-suc : (n c : ℕ) → suc n * c ≡ n * c + c
times-suc n c = grind arith

-- numbers of a size at most have at most the sum of their sizes
plus-within : (a b : ℕ) (x y : ℤ) → Holds (around a) x → Holds (around b) y → Holds (around (a + b)) (x +ℤ y)
plus-within a b x y h k =
    record { above = omega (arith, ints, h.above, k.above); below = omega (arith, ints, h.below, k.below) }

pub wider : (a b : ℕ) (z : ℤ) → a ≤ b → Holds (around a) z → Holds (around b) z
wider a b z l h = record { above = omega (arith, ints, h.above); below = omega (arith, ints, h.below) }

-- n of them
pub sum-within : (f : ℕ → ℤ) (c n : ℕ) → ((k : ℕ) → k < n → Holds (around c) (f k)) → Holds (around (n * c)) (sum_below n f)
sum-within f c zero each = record { above = omega (arith, ints); below = omega (arith, ints) }
sum-within f c (suc n) each = subst (λ m. Holds (around m) (sum_below (suc n) f)) (sym (times-suc n c))
    (plus-within (n * c) c (sum_below n f) (f n) (sum-within f c n (λ k l. each k (omega arith))) (each n (omega arith)))

-- a number of a band that is at most twice as large as the widest limit
abbrev pub IsMeasure : (Interval → ℤ) → Type 0
IsMeasure f = (band : Interval) → IsWideBand band → Holds (around 2000000000000) (f band)

pub width-measure : IsMeasure width_of
width-measure band is = record {
  above = omega (arith, ints, is.ordered.ordered);
  below = omega (arith, ints, is.inside.above, is.inside.below);
}

pub ends-measure : IsMeasure ends_of
ends-measure band is = record {
  above = omega (arith, ints, is.ordered.ordered, is.inside.above, is.inside.below);
  below = omega (arith, ints, is.ordered.ordered, is.inside.above, is.inside.below);
}

pub band-at : (row : List Interval) (i : ℕ) (d : Interval) → AllByRecursion IsWideBand row → i < length row → IsWideBand (get_or row i d)
band-at [] i d are l = absurd (omega (arith, l))
band-at (band ∷ row) zero d are l = are.0
band-at (band ∷ row) (suc i) d are l = band-at row i d are.1 (omega (arith, l))

module _ (f : Interval → ℤ) (measure : IsMeasure f) where
  -- the bands of the front of a row
  front-within : (row : List Interval) (i : ℕ) → AllByRecursion IsWideBand row →
      Holds (around (length row * 2000000000000)) (sum_of_bands f (take i row))
  front-within [] zero are = record { above = omega (arith, ints); below = omega (arith, ints) }
  front-within [] (suc i) are = record { above = omega (arith, ints); below = omega (arith, ints) }
  front-within (band ∷ row) zero are = record { above = omega (arith, ints); below = omega (arith, ints) }
  front-within (band ∷ row) (suc i) are =
      let first = measure band are.0 in
      let rest = front-within row i are.1 in
      record {
        above = omega (arith, ints, first.above, rest.above);
        below = omega (arith, ints, first.below, rest.below);
      }

  pub part-within : (row : List Interval) (i : ℕ) → IsSmallRow row → Holds (around 6000000000000) (sum_of_bands f (take i row))
  part-within row i small = wider (length row * 2000000000000) _ _ (omega (arith, small.few)) (front-within row i small.bands)

  pub row-within : (row : List Interval) → IsSmallRow row → Holds (around 6000000000000) (sum_of_bands f row)
  row-within row small = subst (λ bands. Holds (around 6000000000000) (sum_of_bands f bands)) (take-length row)
      (part-within row (length row) small)

  -- the rows of a tick
  pub rows-within : (rows : ℕ → List Interval) (n : ℕ) → ((s : ℕ) → s < n → IsSmallRow (rows s)) → n ≤ 402 →
      Holds (around 2412000000000000) (sum_below n (λ s. sum_of_bands f (rows s)))
  rows-within rows n small few = wider (n * 6000000000000) _ _ (omega (arith, few))
      (sum-within (λ s. sum_of_bands f (rows s)) 6000000000000 n (λ s l. row-within (rows s) (small s l)))

  -- the ticks of a window or a run
  pub ticks-within : (rows : ℕ → ℕ → List Interval) (n m : ℕ) → ((t s : ℕ) → t < n → s < m → IsSmallRow (rows t s)) →
      n ≤ 48 → m ≤ 402 → Holds (around 115776000000000000) (sum_below n (λ t. sum_below m (λ s. sum_of_bands f (rows t s))))
  ticks-within rows n m small ticks streams = wider (n * 2412000000000000) _ _ (omega (arith, ticks))
      (sum-within (λ t. sum_below m (λ s. sum_of_bands f (rows t s))) 2412000000000000 n
      (λ t l. rows-within (rows t) m (λ s k. small t s l k) streams))

-- sums of such numbers are far inside
pub far-inside : (sums : Sums) (sum : (Interval → ℤ) → ℤ) (c : ℕ) → c ≤ 2 ^ 61 → AreSums sums sum →
    ((f : Interval → ℤ) → IsMeasure f → Holds (around c) (sum f)) → AreFarInside sums
far-inside sums sum c small are within = record {
  width = wider c (2 ^ 61) sums.width small (subst (Holds (around c)) (sym are.width) (within width_of width-measure));
  ends = wider c (2 ^ 61) sums.ends small (subst (Holds (around c)) (sym are.ends) (within ends_of ends-measure));
}

-- so are those over a window
pub window-inside : (window : WindowOf) (sums : Sums) → IsSmallWindow window →
    AreSums sums (λ f. sum_below window.ticks (λ t. sum_at window t f)) → AreFarInside sums
window-inside window sums small are =
    far-inside sums (λ f. sum_below window.ticks (λ t. sum_at window t f)) 115776000000000000 (omega arith) are
    (λ f measure. ticks-within f measure (λ t s. at (slice_index_or window.tubes s []) t) window.ticks (length window.tubes)
    small.rows small.ticks small.streams)
