-- A mix is a blend: of both flows together, the second replaces the first. So it is monotone in each argument.
use Rattle.std.proofs.Common.{◌≡◌, ℤ, pos, ◌+ℤ◌, ◌-ℤ◌, ◌*ℤ◌, ◌≤ℤ◌, ◌<ℤ◌, Bool, true, false, if◌then◌else◌, int_le, arith, refl, sym, ap, subst, ◌∙◌}
use Rattle.std.proofs.lemmas.Int.{ints, clamps, by_lt_z}
use Rattle.std.proofs.lemmas.Bool.{false_from_ne_true}
use lib.Dec.{T}
use lib.Signed.{le_z_yes}
use Rattle.quant.specs.Interval.{Holds, join, point}
use Rattle.quant.specs.Hull.{IsMonotone4}
use Rattle.quant.specs.Rounding.{Rounding, quotient, divisor}
use Rattle.quant.specs.Operation.{not_negative, blend, mix}
use Rattle.quant.proofs.Division.{quotient-exact_whole}
use Rattle.quant.proofs.Operations.{IsDrawn, drawn-after, drawn-monotone, monotone4, weighed, weighed-is, blend-is, blend-rises, blend-volume, blend-between}

-- what a test tells
passes : (b : Bool) → T b → b ≡ true
passes true t = refl
passes false t = absurd t

test-yes : (a b : ℤ) → a ≤ℤ b → int_le a b ≡ true
test-yes a b h = passes (int_le a b) h.le

test-no : (a b : ℤ) → b <ℤ a → int_le a b ≡ false
test-no a b h = false_from_ne_true (int_le a b)
    (λ e. let k : a ≤ℤ b = le_z_yes (subst T (sym e) tt) in omega (arith, ints))

-- both flows together
abbrev pub both : ℤ → ℤ → ℤ
both m n = not_negative m +ℤ not_negative n

-- where something flows, the quotient of the definition
pub mix-flows : (r : Rounding) (c d m n : ℤ) → pos 1 ≤ℤ both m n →
    mix r c d m n ≡ quotient r (c *ℤ not_negative m +ℤ d *ℤ not_negative n) (both m n)
unfolding mix
mix-flows r c d m n h =
    ap (λ t. if t then c else quotient r (c *ℤ not_negative m +ℤ d *ℤ not_negative n) (both m n))
    (test-no (both m n) (pos 0) (omega (arith, ints)))

-- and where nothing does, the first
pub mix-still : (r : Rounding) (c d m n : ℤ) → both m n ≤ℤ pos 0 → mix r c d m n ≡ c
unfolding mix
mix-still r c d m n h =
    ap (λ t. if t then c else quotient r (c *ℤ not_negative m +ℤ d *ℤ not_negative n) (both m n))
    (test-yes (both m n) (pos 0) h)

-- a blend of which nothing is replaced
blend-nothing : (r : Rounding) (c d v : ℤ) → pos 1 ≤ℤ v → blend r c d (pos 0) v ≡ c
blend-nothing r c d v h =
    let whole : weighed c d v (pos 0) ≡ c *ℤ v = weighed-is c d v (pos 0) ∙ omega (arith, ints) in
    blend-is r c d (pos 0) v (pos 0) h (omega (arith, ints, clamps)) ∙ ap (λ t. quotient r t v) whole ∙
    quotient-exact_whole r c v h

-- the volume of the blend that a mix is
abbrev pub volume : ℤ → ℤ → ℤ
volume m n = divisor (both m n)

pub mix-is_blend : (r : Rounding) (c d m n : ℤ) → mix r c d m n ≡ blend r c d (not_negative n) (volume m n)
mix-is_blend r c d m n =
    by_lt_z (pos 0) (both m n)
    (λ l.
    let v : volume m n ≡ both m n = omega (arith, ints, clamps) in
    let kept : not_negative m ≡ both m n -ℤ not_negative n = omega (arith, ints) in
    mix-flows r c d m n (omega (arith, ints))
    ∙ ap (λ t. quotient r (c *ℤ t +ℤ d *ℤ not_negative n) (both m n)) kept
    ∙ ap (λ t. quotient r (weighed c d t (not_negative n)) t) (sym v)
    ∙ sym (blend-is r c d (not_negative n) (volume m n) (not_negative n) (omega (arith, ints, clamps))
    (omega (arith, ints, clamps))))
    (λ l.
    let none : not_negative n ≡ pos 0 = omega (arith, ints, clamps) in
    mix-still r c d m n l ∙ sym (ap (λ t. blend r c d t (volume m n)) none ∙
    blend-nothing r c d (volume m n) (omega (arith, ints, clamps))))

-- where something flows the order of the two does not matter
mix-swaps : (r : Rounding) (c d m n : ℤ) → pos 1 ≤ℤ both m n → mix r c d m n ≡ mix r d c n m
mix-swaps r c d m n h =
    let products : (c *ℤ not_negative m +ℤ d *ℤ not_negative n) ≡ (d *ℤ not_negative n +ℤ c *ℤ not_negative m) =
    omega (arith, ints) in
    let flows : both m n ≡ both n m = omega (arith, ints) in
    mix-flows r c d m n h
    ∙ ap (λ t. quotient r t (both m n)) products
    ∙ ap (quotient r (d *ℤ not_negative n +ℤ c *ℤ not_negative m)) flows
    ∙ sym (mix-flows r d c n m (omega (arith, ints)))

-- it rises with both contents
pub mix-rises : (r : Rounding) (a b c d m n : ℤ) → a ≤ℤ b → c ≤ℤ d → mix r a c m n ≤ℤ mix r b d m n
mix-rises r a b c d m n h k = omega (
  arith,
  ints,
  mix-is_blend r a c m n,
  mix-is_blend r b d m n,
  blend-rises r a b c d (not_negative n) (volume m n) h k,
)

volume-rises : (k m n : ℤ) → k ≤ℤ m → volume k n ≤ℤ volume m n
volume-rises k m n h = omega (arith, ints, clamps)

-- it goes towards the first content with the first flow
pub mix-first_flow : (r : Rounding) (c d n : ℤ) → IsDrawn d c (λ m. mix r c d m n)
mix-first_flow r c d n =
    drawn-after d c (blend r c d (not_negative n)) (λ m. volume m n) (λ m. mix r c d m n)
    (blend-volume r c d (not_negative n))
    (λ k m h. volume-rises k m n h) (λ m. mix-is_blend r c d m n)

-- it lies between the contents
pub mix-between : (r : Rounding) (c d m n : ℤ) → Holds (join (point c) (point d)) (mix r c d m n)
mix-between r c d m n = subst (Holds (join (point c) (point d))) (sym (mix-is_blend r c d m n))
    (blend-between r c d (not_negative n) (volume m n))

-- and is the second where that alone flows
mix-second_alone : (r : Rounding) (c d m n : ℤ) → m ≤ℤ pos 0 → pos 1 ≤ℤ n → mix r c d m n ≡ d
mix-second_alone r c d m n h k =
    let none : not_negative m ≡ pos 0 = omega (arith, ints, clamps) in
    mix-swaps r c d m n (omega (arith, ints, clamps))
    ∙ mix-is_blend r d c n m
    ∙ ap (λ t. blend r d c t (volume n m)) none
    ∙ blend-nothing r d c (volume n m) (omega (arith, ints, clamps))

-- with less and with more of the second flow a mix is one of the mixes turned round where the first flows, twice the
-- second
-- content where the second alone does, and else first the first content
two-mixes : (P : ℤ → ℤ → Type 0) (r : Rounding) (c d m k n : ℤ) → k ≤ℤ n → P (mix r d c k m) (mix r d c n m) → P d d →
    P c (mix r c d m n) → P (mix r c d m k) (mix r c d m n)
two-mixes P r c d m k n h turned alone still =
    by_lt_z (pos 0) m
    (λ l.
    subst (λ x. P x (mix r c d m n)) (sym (mix-swaps r c d m k (omega (arith, ints, clamps))))
    (subst (P (mix r d c k m)) (sym (mix-swaps r c d m n (omega (arith, ints, clamps)))) turned))
    (λ l. by_lt_z (pos 0) k
    (λ s.
    subst (λ x. P x (mix r c d m n)) (sym (mix-second_alone r c d m k l (omega (arith, ints))))
    (subst (P d) (sym (mix-second_alone r c d m n l (omega (arith, ints)))) alone))
    (λ s. subst (λ x. P x (mix r c d m n)) (sym (mix-still r c d m k (omega (arith, ints, clamps)))) still))

-- it goes towards the second content with the second flow
pub mix-second_flow : (r : Rounding) (c d m : ℤ) → IsDrawn c d (mix r c d m)
mix-second_flow r c d m =
    let draws = mix-first_flow r d c m in
    record {
      up = λ k n p h.
          let b = mix-between r c d m n in
          two-mixes (λ x y. x ≤ℤ y) r c d m k n h (draws.up k n p h) (omega (arith, ints))
          (omega (arith, ints, clamps));
      down = λ k n p h.
          let b = mix-between r c d m n in
          two-mixes (λ x y. y ≤ℤ x) r c d m k n h (draws.down k n p h) (omega (arith, ints))
          (omega (arith, ints, clamps));
    }

pub mix-monotone : (r : Rounding) → IsMonotone4 (mix r)
mix-monotone r = monotone4 (mix r) (mix-rises r)
    (λ c d n. drawn-monotone d c (λ m. mix r c d m n) (mix-first_flow r c d n))
    (λ c d m. drawn-monotone c d (mix r c d m) (mix-second_flow r c d m))
