-- Products and quotients of whole numbers, and how they grow.
use Rattle.std.proofs.Common.{◌≡◌, ℕ, zero, suc, ◌+◌, ◌*◌, ◌<◌, ◌≤◌, ℤ, pos, negsuc, ◌+ℤ◌, ◌-ℤ◌, ◌*ℤ◌, neg_ℤ, ◌≤ℤ◌, ◌<ℤ◌, sym, ◌∙◌, ap, arith}
use Rattle.std.proofs.lemmas.Int.{ints, clamps, by_lt_z}
use Rattle.std.proofs.Math.Nat.{mul-le-mul_right}
use Rattle.std.proofs.Math.IntN.{*ℤ_comm}
use Rattle.std.specs.Int.{int_div_euclid}
use Rattle.quant.specs.Rounding.{Rounding, quotient, divisor}
use Rattle.quant.specs.Rounding.Rounding.{Floor, Nearest}
use borrow.Author.Differences.{up, down, sum_is_lem, neg_is, product_is, le_out, lt_out}

-- a product of a sum, and of a product
pub add-times : (a b c : ℤ) → (a +ℤ b) *ℤ c ≡ a *ℤ c +ℤ b *ℤ c
add-times a b c = omega (
  arith,
  ints,
  ap (λ (t : ℕ). t * up c) (sum_is_lem a b),
  ap (λ (t : ℕ). t * down c) (sum_is_lem a b),
)

neg-times : (a b : ℤ) → neg_ℤ a *ℤ b ≡ neg_ℤ (a *ℤ b)
neg-times a b = omega (
  arith,
  ints,
  ap (λ (t : ℕ). t * up b) (neg_is a).0,
  ap (λ (t : ℕ). t * up b) (neg_is a).1,
  ap (λ (t : ℕ). t * down b) (neg_is a).0,
  ap (λ (t : ℕ). t * down b) (neg_is a).1,
)

pub sub-times : (a b c : ℤ) → (a -ℤ b) *ℤ c ≡ a *ℤ c -ℤ b *ℤ c
sub-times a b c = omega (arith, ints, add-times a (neg_ℤ b) c, neg-times b c)

pub times-times : (a b c : ℤ) → (a *ℤ b) *ℤ c ≡ a *ℤ (b *ℤ c)
times-times a b c = omega (
  arith,
  ints,
  ap (λ (t : ℕ). t * up c) (product_is a b).0,
  ap (λ (t : ℕ). t * up c) (product_is a b).1,
  ap (λ (t : ℕ). t * down c) (product_is a b).0,
  ap (λ (t : ℕ). t * down c) (product_is a b).1,
  ap (λ (t : ℕ). up a * t) (product_is b c).0,
  ap (λ (t : ℕ). up a * t) (product_is b c).1,
  ap (λ (t : ℕ). down a * t) (product_is b c).0,
  ap (λ (t : ℕ). down a * t) (product_is b c).1,
)

pub swap-times : (a b c : ℤ) → a *ℤ (b *ℤ c) ≡ b *ℤ (a *ℤ c)
swap-times a b c = sym (times-times a b c) ∙ ap (λ (t : ℤ). t *ℤ c) (*ℤ_comm a b) ∙ times-times b a c

-- a greater number times one that is not negative is greater
pub times-le : (a b c : ℤ) → pos 0 ≤ℤ c → a ≤ℤ b → (a *ℤ c) ≤ℤ (b *ℤ c)
times-le a b (pos n) p h = omega (arith, ints, mul-le-mul_right n (le_out a b h))
times-le a b (negsuc n) p h = absurd (omega (arith, ints))

-- the same with the factor on the left
pub le-times : (a b c : ℤ) → pos 0 ≤ℤ c → a ≤ℤ b → (c *ℤ a) ≤ℤ (c *ℤ b)
le-times a b c p h = omega (arith, ints, times-le a b c p h, *ℤ_comm a c, *ℤ_comm b c)

-- a factor that is not positive turns the order round
pub ge-times : (a b c : ℤ) → c ≤ℤ pos 0 → a ≤ℤ b → (c *ℤ b) ≤ℤ (c *ℤ a)
ge-times a b (pos zero) p h = omega (arith, ints)
ge-times a b (pos (suc n)) p h = absurd (omega (arith, ints))
ge-times a b (negsuc n) p h = omega (arith, ints, mul-le-mul_right (suc n) (le_out a b h))

-- the quotient rounded down: its product is at most the number, and one more would be above it
floor-below : (a : ℤ) (k : ℕ) → 0 < k → (int_div_euclid a (pos k) *ℤ pos k) ≤ℤ a
floor-below (pos a) k h = omega (arith, ints)
floor-below (negsuc a) k h = omega (arith, ints)

floor-above : (a : ℤ) (k : ℕ) → 0 < k → a <ℤ (int_div_euclid a (pos k) *ℤ pos k +ℤ pos k)
floor-above (pos a) k h = omega (arith, ints)
floor-above (negsuc a) k h = omega (arith, ints)

-- the same in parts, for `omega`
below-parts : (x a : ℤ) (v : ℕ) → (x *ℤ pos v) ≤ℤ a → up x * v + down a ≤ up a + down x * v
below-parts x a v h = omega (arith, ints)

above-parts : (y b : ℤ) (w : ℕ) → b <ℤ (y *ℤ pos w +ℤ pos w) → up b + 1 + down y * w ≤ up y * w + w + down b
above-parts y b w h = omega (arith, ints)

cross-parts : (a b : ℤ) (v w : ℕ) → (a *ℤ pos w) ≤ℤ (b *ℤ pos v) → up a * w + down b * v ≤ up b * v + down a * w
cross-parts a b v w h = omega (arith, ints)

floor-below_at : (a v : ℤ) → pos 1 ≤ℤ v → (int_div_euclid a v *ℤ v) ≤ℤ a
floor-below_at a (pos v) p = floor-below a v (omega (arith, ints))
floor-below_at a (negsuc v) p = absurd (omega (arith, ints))

floor-above_at : (a v : ℤ) → pos 1 ≤ℤ v → a <ℤ (int_div_euclid a v *ℤ v +ℤ v)
floor-above_at a (pos v) p = floor-above a v (omega (arith, ints))
floor-above_at a (negsuc v) p = absurd (omega (arith, ints))

-- the floor of a lesser fraction is no greater
no-floor-above : (x y a b : ℤ) (v w : ℕ) → (x *ℤ pos v) ≤ℤ a → b <ℤ (y *ℤ pos w +ℤ pos w) →
    (a *ℤ pos w) ≤ℤ (b *ℤ pos v) → 0 < v → y <ℤ x → ⊥
no-floor-above x y a b v w p q h n l =
    omega (
      arith,
      mul-le-mul_right w (below-parts x a v p),
      mul-le-mul_right v (above-parts y b w q),
      cross-parts a b v w h,
      mul-le-mul_right (v * w) (lt_out y x l),
    )

floor-le : (a b : ℤ) (v w : ℕ) → 0 < v → 0 < w → (a *ℤ pos w) ≤ℤ (b *ℤ pos v) →
    int_div_euclid a (pos v) ≤ℤ int_div_euclid b (pos w)
floor-le a b v w p q h =
    by_lt_z (int_div_euclid b (pos w)) (int_div_euclid a (pos v))
    (λ l. absurd (no-floor-above (int_div_euclid a (pos v)) (int_div_euclid b (pos w)) a b v w (floor-below a v p)
    (floor-above b w q) h p l))
    (λ l. l)

-- the same at divisors of at least 1
floor-le_at : (a b v w : ℤ) → pos 1 ≤ℤ v → pos 1 ≤ℤ w → (a *ℤ w) ≤ℤ (b *ℤ v) → int_div_euclid a v ≤ℤ int_div_euclid b w
floor-le_at a b (pos v) (pos w) p q h = floor-le a b v w (omega (arith, ints)) (omega (arith, ints)) h
floor-le_at a b (negsuc v) w p q h = absurd (omega (arith, ints))
floor-le_at a b (pos v) (negsuc w) p q h = absurd (omega (arith, ints))

-- the nearest whole number is a floor too, of twice the number and the divisor, divided by twice the divisor
nearest-cross : (a b v w : ℤ) → (a *ℤ w) ≤ℤ (b *ℤ v) →
    ((pos 2 *ℤ a +ℤ v) *ℤ (pos 2 *ℤ w)) ≤ℤ ((pos 2 *ℤ b +ℤ w) *ℤ (pos 2 *ℤ v))
nearest-cross a b v w h =
    omega (
      arith,
      ints,
      add-times (pos 2 *ℤ a) v (pos 2 *ℤ w),
      times-times (pos 2) a (pos 2 *ℤ w),
      swap-times a (pos 2) w,
      swap-times v (pos 2) w,
      add-times (pos 2 *ℤ b) w (pos 2 *ℤ v),
      times-times (pos 2) b (pos 2 *ℤ v),
      swap-times b (pos 2) v,
      swap-times w (pos 2) v,
      *ℤ_comm v w,
      h,
    )

pub one-le_divisor : (v : ℤ) → pos 1 ≤ℤ divisor v
one-le_divisor v = omega (arith, ints, clamps)

one-le_double : (v : ℤ) → pos 1 ≤ℤ v → pos 1 ≤ℤ (pos 2 *ℤ v)
one-le_double v h = omega (arith, ints)

pub quotient-le : (r : Rounding) (a b v w : ℤ) → (a *ℤ divisor w) ≤ℤ (b *ℤ divisor v) → quotient r a v ≤ℤ quotient r b w
unfolding quotient
quotient-le Floor a b v w h = floor-le_at a b (divisor v) (divisor w) (one-le_divisor v) (one-le_divisor w) h
quotient-le Nearest a b v w h =
    floor-le_at (pos 2 *ℤ a +ℤ divisor v) (pos 2 *ℤ b +ℤ divisor w) (pos 2 *ℤ divisor v) (pos 2 *ℤ divisor w)
    (one-le_double (divisor v) (one-le_divisor v)) (one-le_double (divisor w) (one-le_divisor w))
    (nearest-cross a b (divisor v) (divisor w) h)

-- one divisor: a greater number has a greater quotient
pub quotient-rises : (r : Rounding) (a b v : ℤ) → a ≤ℤ b → quotient r a v ≤ℤ quotient r b v
quotient-rises r a b v h = quotient-le r a b v v (times-le a b (divisor v) (omega (arith, ints, one-le_divisor v)) h)

-- no other number than the floor has these two properties
floors-le : (x y a v : ℤ) → pos 1 ≤ℤ v → (x *ℤ v) ≤ℤ a → a <ℤ (y *ℤ v +ℤ v) → x ≤ℤ y
floors-le x y a (pos v) o p q =
    by_lt_z y x (λ l. absurd (no-floor-above x y a a v v p q (omega (arith, ints)) (omega (arith, ints)) l)) (λ l. l)
floors-le x y a (negsuc v) o p q = absurd (omega (arith, ints))

floor-is : (x a v : ℤ) → pos 1 ≤ℤ v → (x *ℤ v) ≤ℤ a → a <ℤ (x *ℤ v +ℤ v) → int_div_euclid a v ≡ x
floor-is x a v o p q =
    omega (
      arith,
      ints,
      floors-le x (int_div_euclid a v) a v o p (floor-above_at a v o),
      floors-le (int_div_euclid a v) x a v o (floor-below_at a v o) q,
    )

-- a multiple of the divisor on top adds the multiplier
floor-shifts : (a k v : ℤ) → pos 1 ≤ℤ v → int_div_euclid (a +ℤ k *ℤ v) v ≡ int_div_euclid a v +ℤ k
floor-shifts a k v o =
    let q = int_div_euclid a v in
    let e : (q +ℤ k) *ℤ v ≡ q *ℤ v +ℤ k *ℤ v = add-times q k v in
    floor-is (q +ℤ k) (a +ℤ k *ℤ v) v o (omega (arith, ints, e, floor-below_at a v o))
    (omega (arith, ints, e, floor-above_at a v o))

nearest-shift : (a k v : ℤ) → pos 2 *ℤ (a +ℤ k *ℤ v) +ℤ v ≡ (pos 2 *ℤ a +ℤ v) +ℤ k *ℤ (pos 2 *ℤ v)
nearest-shift a k v = omega (arith, ints, swap-times k (pos 2) v)

pub quotient-shifts : (r : Rounding) (a k v : ℤ) → quotient r (a +ℤ k *ℤ divisor v) v ≡ quotient r a v +ℤ k
unfolding quotient
quotient-shifts Floor a k v = floor-shifts a k (divisor v) (one-le_divisor v)
quotient-shifts Nearest a k v =
    rw (nearest-shift a k (divisor v)) (floor-shifts (pos 2 *ℤ a +ℤ divisor v) k (pos 2 *ℤ divisor v)
    (one-le_double (divisor v) (one-le_divisor v)))

-- a multiple of the divisor is divided exactly
pub quotient-exact : (r : Rounding) (k v : ℤ) → quotient r (k *ℤ divisor v) v ≡ k
unfolding quotient
quotient-exact Floor k v = floor-is k (k *ℤ divisor v) (divisor v) (one-le_divisor v) (omega (arith, ints))
    (omega (arith, ints, one-le_divisor v))
quotient-exact Nearest k v =
    let w = divisor v in
    let o : pos 1 ≤ℤ w = one-le_divisor v in
    let e : k *ℤ (pos 2 *ℤ w) ≡ pos 2 *ℤ (k *ℤ w) = swap-times k (pos 2) w in
    floor-is k (pos 2 *ℤ (k *ℤ w) +ℤ w) (pos 2 *ℤ w) (one-le_double w o) (omega (arith, ints, e))
    (omega (arith, ints, e))

-- the same at a divisor that is known to be at least 1
pub divisor-same : (v : ℤ) → pos 1 ≤ℤ v → divisor v ≡ v
divisor-same v h = omega (arith, ints, clamps)

pub quotient-le_whole : (r : Rounding) (a b v w : ℤ) → pos 1 ≤ℤ v → pos 1 ≤ℤ w → (a *ℤ w) ≤ℤ (b *ℤ v) →
    quotient r a v ≤ℤ quotient r b w
quotient-le_whole r a b v w p q h =
    quotient-le r a b v w (omega (
      arith,
      ints,
      ap (λ (t : ℤ). a *ℤ t) (divisor-same w q),
      ap (λ (t : ℤ). b *ℤ t) (divisor-same v p),
      h,
    ))

pub quotient-exact_whole : (r : Rounding) (k v : ℤ) → pos 1 ≤ℤ v → quotient r (k *ℤ v) v ≡ k
quotient-exact_whole r k v p = ap (λ (t : ℤ). quotient r (k *ℤ t) v) (sym (divisor-same v p)) ∙ quotient-exact r k v

-- so the quotient of what lies between two multiples lies between the multipliers
pub quotient-between : (r : Rounding) (l h a v : ℤ) → (l *ℤ divisor v) ≤ℤ a → a ≤ℤ (h *ℤ divisor v) →
    (l ≤ℤ quotient r a v) × (quotient r a v ≤ℤ h)
quotient-between r l h a v p q = (
  omega (arith, ints, quotient-rises r (l *ℤ divisor v) a v p, quotient-exact r l v),
  omega (arith, ints, quotient-rises r a (h *ℤ divisor v) v q, quotient-exact r h v),
)

pub quotient-between_whole : (r : Rounding) (l h a v : ℤ) → pos 1 ≤ℤ v → (l *ℤ v) ≤ℤ a → a ≤ℤ (h *ℤ v) →
    (l ≤ℤ quotient r a v) × (quotient r a v ≤ℤ h)
quotient-between_whole r l h a v o p q =
    let same = divisor-same v o in
    quotient-between r l h a v (omega (arith, ints, ap (λ (t : ℤ). l *ℤ t) same))
    (omega (arith, ints, ap (λ (t : ℤ). h *ℤ t) same))

-- the quotient that code has divided
pub quotient-floor : (a b x y q : ℤ) → pos 1 ≤ℤ b → x ≡ a → y ≡ b → q ≡ int_div_euclid x y → q ≡ quotient Floor a b
unfolding quotient
quotient-floor a b x y q p e f h = h ∙ ap (λ (t : ℤ). int_div_euclid t y) e ∙
    ap (int_div_euclid a) (f ∙ sym (divisor-same b p))
