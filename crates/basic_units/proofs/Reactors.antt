-- How much a reaction heats, and where the contents of a reactor lie.
use Rattle.std.proofs.Common.{◌≡◌, ℕ, ◌*◌, ◌^◌, ℤ, pos, ◌+ℤ◌, to_z, of_z, sym, subst, ap, arith, refl}
use Rattle.std.proofs.lemmas.Int.{ints, clamps}
use Rattle.std.specs.Int.{w64}
use Rattle.quant.specs.Interval.{Interval, Holds, IsBand, IsInside, around, join, wide, widest, point}
use Rattle.quant.specs.Hull.{hull1, hull2}
use Rattle.quant.specs.Rounding.{Rounding, Floor}
use Rattle.quant.specs.Operation.{gains, steepest, contents, gain}
use Rattle.quant.proofs.Operations.{gain-within}

-- the greatest warming by a conc in the limits
abbrev warmest : ℕ
warmest = widest * 10 ^ 3

abbrev pub warmings : Interval
warmings = around warmest

-- what heats, of a conc in the limits
pub heats : (r : Rounding) (k a : ℤ) → Holds wide a → Holds gains k → Holds warmings (gain r k a)
heats r k a h p = gain-within r k a widest steepest warmest refl h p

-- what the calls give lies where their arguments do
pub blended-wide : (a b z : ℤ) → Holds wide a → Holds wide b →
    Holds (join (point (to_z w64 (of_z w64 a))) (point (to_z w64 (of_z w64 b)))) z → Holds wide z
blended-wide a b z h k l = record { above = omega (arith, ints, clamps); below = omega (arith, ints, clamps) }

pub read-wide : (z : ℤ) → Holds wide z → Holds wide (to_z w64 (of_z w64 z))
read-wide z h = record { above = omega (arith, ints); below = omega (arith, ints) }

pub shared-wide : (a z : ℤ) → Holds wide a → Holds (join (point (pos 0)) (point (to_z w64 (of_z w64 a)))) z →
    Holds wide z
shared-wide a z h l = record { above = omega (arith, ints, clamps); below = omega (arith, ints, clamps) }

pub heated-around : (w s k g t : ℤ) → Holds wide w → Holds wide s → Holds gains k →
    g ≡ gain Floor (to_z w64 (of_z w64 k)) (to_z w64 (of_z w64 s)) →
    t ≡ to_z w64 (of_z w64 w) +ℤ to_z w64 (of_z w64 g) → Holds contents t
heated-around w s k g t h i j e f =
    let x : Holds wide (to_z w64 (of_z w64 s)) = record { above = omega (arith, ints); below = omega (arith, ints) } in
    let y : Holds gains (to_z w64 (of_z w64 k)) = record { above = omega (arith, ints); below = omega (arith, ints) } in
    let n : Holds warmings g = subst (Holds warmings) (sym e)
    (heats Floor (to_z w64 (of_z w64 k)) (to_z w64 (of_z w64 s)) x y) in
    record { above = omega (arith, ints); below = omega (arith, ints) }

-- the same over a band
pub heats-inside : (r : Rounding) (k : ℤ) (A : Interval) → Holds wide A.lo → Holds wide A.hi → Holds gains k →
    IsInside (hull1 (gain r k) A) warmings
heats-inside r k A l h p =
    let x = heats r k A.lo l p in
    let y = heats r k A.hi h p in
    record { above = omega (arith, ints, clamps); below = omega (arith, ints, clamps) }

pub joined-wide : (A B R : Interval) → IsInside A wide → IsInside B wide → IsInside R (join A B) → IsInside R wide
joined-wide A B R h k l = record { above = omega (arith, ints, clamps); below = omega (arith, ints, clamps) }

pub from_zero-wide : (A R : Interval) → IsInside A wide → IsInside R (join (point (pos 0)) A) → IsInside R wide
from_zero-wide A R h l = record { above = omega (arith, ints, clamps); below = omega (arith, ints, clamps) }

pub heated-inside : (W S G T : Interval) (k : ℤ) → IsBand W → IsBand S → IsBand G → IsInside W wide → IsInside S wide →
    Holds gains k → G ≡ hull1 (gain Floor (to_z w64 (of_z w64 k))) S →
    T ≡ hull2 ◌+ℤ◌ W G → IsInside T contents
heated-inside W S G T k a b c h i j e f =
    let y : Holds gains (to_z w64 (of_z w64 k)) = record { above = omega (arith, ints); below = omega (arith, ints) } in
    let low : Holds wide S.lo = record { above = i.above; below = omega (arith, ints, b.ordered, i.below) } in
    let high : Holds wide S.hi = record { above = omega (arith, ints, b.ordered, i.above); below = i.below } in
    let n : IsInside G warmings = subst (λ (X : Interval). IsInside X warmings) (sym e)
    (heats-inside Floor (to_z w64 (of_z w64 k)) S low high y) in
    let l = ap (λ (X : Interval). X.lo) f in
    let m = ap (λ (X : Interval). X.hi) f in
    let o = a.ordered in
    let p = c.ordered in
    record { above = omega (arith, ints, clamps); below = omega (arith, ints, clamps) }
