-- Sums of products of numbers of 64 bits, in 128 bits.
use Rattle.std.proofs.Common.{ℤ, FitsSigned, arith, ◌≡◌, ◌*ℤ◌, subst, sym, pos, to_z, of_z, ◌+ℤ◌, not, ap, ◌∙◌}
use Rattle.std.proofs.lemmas.Int.{ints, to_z-of_z}
use Rattle.std.specs.Int.{w64, w128}
use Rattle.std.specs.Prelude.{int_le}
use Rattle.std.specs.Int.Signed.{lt_z}
use Rattle.quant.specs.Interval.{Holds, around}
use Rattle.quant.proofs.Casts.{product-around, same-product}

long : (a : ℤ) → FitsSigned w64 a → Holds (around 9223372036854775808) a
long a h = record { above = omega (arith, ints); below = omega (arith, ints) }

-- the size of a product, and of one with a million
size_of : (p a b : ℤ) → p ≡ a *ℤ b → FitsSigned w64 a → FitsSigned w64 b →
    Holds (around 85070591730234615865843651857942052864) p
size_of p a b e h k =
    subst (Holds (around 85070591730234615865843651857942052864)) (sym e)
    (product-around a b 9223372036854775808 9223372036854775808 (long a h) (long b k))

million_fits : Holds (around 1000000) (pos 1000000)
million_fits = record { above = omega (arith, ints); below = omega (arith, ints) }

size_of_millions : (p a : ℤ) → p ≡ a *ℤ pos 1000000 → FitsSigned w64 a → Holds (around 9223372036854775808000000) p
size_of_millions p a e h =
    subst (Holds (around 9223372036854775808000000)) (sym e)
    (product-around a (pos 1000000) 9223372036854775808 1000000 (long a h) million_fits)

-- what comes back from 128 bits
back : (p : ℤ) → Holds (around 85070591730234615865843651857942052864) p → to_z w128 (of_z w128 p) ≡ p
back p h = omega (arith, ints)

back_millions : (p : ℤ) → Holds (around 9223372036854775808000000) p → to_z w128 (of_z w128 p) ≡ p
back_millions p h = omega (arith, ints)

sum_back : (p q : ℤ) → Holds (around 9223372036854775808000000) p →
    Holds (around 85070591730234615865843651857942052864) q →
    to_z w128 (of_z w128 (p +ℤ q)) ≡ p +ℤ q
sum_back p q h k = omega (arith, ints)

less_is : (a b : ℤ) → lt_z a b ≡ not (int_le b a)
less_is a b = grind (arith, ints)

-- the test of a sum
sum_is_more : (p q r : ℤ) → Holds (around 9223372036854775808000000) p →
    Holds (around 85070591730234615865843651857942052864) q → Holds (around 9223372036854775808000000) r →
    lt_z (to_z w128 (of_z w128 r)) (to_z w128 (of_z w128 (to_z w128 (of_z w128 p) +ℤ to_z w128 (of_z w128 q)))) ≡ not
    (int_le (p +ℤ q) r)
sum_is_more p q r h k l = rw (back_millions p h, back q k, back_millions r l, sum_back p q h k) (less_is r (p +ℤ q))

pub products_are_more : (p q r a b c d : ℤ) →
    p ≡ to_z w64 (of_z w64 a) *ℤ pos 1000000 → q ≡ to_z w64 (of_z w64 b) *ℤ to_z w64 (of_z w64 c) →
    r ≡ to_z w64 (of_z w64 d) *ℤ pos 1000000 →
    FitsSigned w64 a → FitsSigned w64 b → FitsSigned w64 c → FitsSigned w64 d →
    lt_z (to_z w128 (of_z w128 r)) (to_z w128 (of_z w128 (to_z w128 (of_z w128 p) +ℤ to_z w128 (of_z w128 q)))) ≡ not
    (int_le (a *ℤ pos 1000000 +ℤ b *ℤ c) (d *ℤ pos 1000000))
products_are_more p q r a b c d sent came held h i j k =
    let e : p ≡ a *ℤ pos 1000000 = sent ∙ ap (λ (t : ℤ). t *ℤ pos 1000000) (to_z-of_z w64 a h) in
    let f : q ≡ b *ℤ c = came ∙ same-product (to_z w64 (of_z w64 b)) (to_z w64 (of_z w64 c)) b c (to_z-of_z w64 b i)
    (to_z-of_z w64 c j) in
    let g : r ≡ d *ℤ pos 1000000 = held ∙ ap (λ (t : ℤ). t *ℤ pos 1000000) (to_z-of_z w64 d k) in
    sum_is_more p q r (size_of_millions p a e h) (size_of q b c f i j) (size_of_millions r d g k)
    ∙ ap (λ (t : ℤ). not (int_le (t +ℤ q) r)) e
    ∙ ap (λ (t : ℤ). not (int_le (a *ℤ pos 1000000 +ℤ t) r)) f
    ∙ ap (λ (t : ℤ). not (int_le (a *ℤ pos 1000000 +ℤ b *ℤ c) t)) g
