-- What code makes of products and sums in 128 bits.
use Rattle.std.proofs.Common.{◌≡◌, ℕ, ◌*◌, ◌≤◌, ℤ, ◌+ℤ◌, ◌*ℤ◌, FitsSigned, to_z, of_z, arith, ap, subst, sym, ◌∙◌, unsigned_abs}
use Rattle.std.proofs.lemmas.Int.{ints, clamps, unsigned_abs-mul, to_z-of_z}
use Rattle.std.proofs.lemmas.Nat.{mul-le}
use Rattle.std.specs.Int.{w64, w128}
use Rattle.quant.specs.Interval.{Interval, Holds, around, join, point}
use Rattle.quant.specs.Operation.{contents, greatest_content, greatest_amount, heaviest}

-- the size of a product
size-le : (a : ℤ) (m : ℕ) → Holds (around m) a → unsigned_abs a ≤ m
size-le a m h = omega (arith, ints)

pub product-around : (a b : ℤ) (m n : ℕ) → Holds (around m) a → Holds (around n) b → Holds (around (m * n)) (a *ℤ b)
product-around a b m n h k =
    let s : unsigned_abs (a *ℤ b) ≤ m * n = omega
    (arith, unsigned_abs-mul a b, mul-le (unsigned_abs a) (unsigned_abs b) m n (size-le a m h) (size-le b n k)) in
    record { above = omega (arith, ints); below = omega (arith, ints) }

pub same-product : (x y a b : ℤ) → x ≡ a → y ≡ b → x *ℤ y ≡ a *ℤ b
same-product x y a b e f = ap (λ (t : ℤ). t *ℤ y) e ∙ ap (λ (t : ℤ). a *ℤ t) f

-- and what is read of it in 128 bits
pub read-product : (x y r a b : ℤ) → FitsSigned w128 r → r ≡ x *ℤ y → x ≡ a → y ≡ b → to_z w128 (of_z w128 r) ≡ a *ℤ b
read-product x y r a b h e f g = to_z-of_z w128 r h ∙ e ∙ same-product x y a b f g

-- the products of contents and amounts, and those of contents and what a stage weighs them by
abbrev pub products : Interval
products = around (greatest_content * greatest_amount)

abbrev pub stage_products : Interval
stage_products = around (greatest_content * heaviest)

-- a product comes back from 128 bits, and so does a sum of two
pub back : (x a : ℤ) → x ≡ a → Holds products a → to_z w128 (of_z w128 x) ≡ a
back x a e h = omega (arith, ints)

pub fits : (x a : ℤ) → x ≡ a → Holds products a → FitsSigned w128 x
fits x a e h = omega (arith, ints)

pub sum-fits : (x y a b : ℤ) → x ≡ a → y ≡ b → Holds products a → Holds products b →
    FitsSigned w128 (to_z w128 (of_z w128 x) +ℤ to_z w128 (of_z w128 y))
sum-fits x y a b e f h k = omega (arith, ints, back x a e h, back y b f k)

pub sum-back : (x y a b : ℤ) → x ≡ a → y ≡ b → Holds products a → Holds products b →
    to_z w128 (of_z w128 (to_z w128 (of_z w128 x) +ℤ to_z w128 (of_z w128 y))) ≡ a +ℤ b
sum-back x y a b e f h k = omega (arith, ints, back x a e h, back y b f k)

-- and a sum of three that are a little greater
two-back : (p q : ℤ) → Holds stage_products p → Holds stage_products q →
    to_z w128 (of_z w128 (to_z w128 (of_z w128 p) +ℤ to_z w128 (of_z w128 q))) ≡ p +ℤ q
two-back p q h k = omega (arith, ints)

pub three-fit : (p q s : ℤ) → Holds stage_products p → Holds stage_products q → Holds stage_products s →
    FitsSigned w128 (to_z w128 (of_z w128 (to_z w128 (of_z w128 p) +ℤ to_z w128 (of_z w128 q))) +ℤ to_z w128
    (of_z w128 s))
three-fit p q s h k i = rw (two-back p q h k) (omega (arith, ints))

pub three-back : (p q s : ℤ) → Holds stage_products p → Holds stage_products q → Holds stage_products s →
    to_z w128 (of_z w128 (to_z w128 (of_z w128 (to_z w128 (of_z w128 p) +ℤ to_z w128 (of_z w128 q))) +ℤ to_z w128
    (of_z w128 s))) ≡ (p +ℤ q) +ℤ s
three-back p q s h k i = rw (two-back p q h k) (omega (arith, ints))

-- a quotient that lies between two contents
pub record IsFound (c d q z : ℤ) : Type 0 where
  pub held : Holds contents c × Holds contents d
  pub between : Holds (join (point c) (point d)) z
  pub same : q ≡ z

-- so it fits 64 bits, and what is read of it is the same and lies there too
pub found-fits : (c d q z : ℤ) → IsFound c d q z → FitsSigned w64 q
found-fits c d q z f =
    let h = f.held.0 in
    let k = f.held.1 in
    omega (arith, ints, clamps, f.same)

pub found-read : (c d q z r : ℤ) → r ≡ q → IsFound c d q z →
    (to_z w64 (of_z w64 r) ≡ z) × Holds (join (point c) (point d)) (to_z w64 (of_z w64 r))
found-read c d q z r e f =
    let again : IsFound c d r z = record { held = f.held; between = f.between; same = e ∙ f.same } in
    let same = to_z-of_z w64 r (found-fits c d r z again) ∙ again.same in
    (same, subst (Holds (join (point c) (point d))) (sym same) f.between)
