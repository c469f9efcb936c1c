use Rattle.std.proofs.Common.{◌≡◌, ◌*ℤ◌, ℤ, to_z, of_z, sym, ◌∙◌, ap, subst, arith}
use Rattle.std.proofs.lemmas.Int.{ints}
use Rattle.std.specs.Int.{w128}
use Rattle.quant.specs.Interval.{Holds}
use Rattle.quant.specs.Rounding.{quotient, Floor}
use Rattle.quant.specs.Operation.{gain, million, amounts, contents, greatest_amount, greatest_content}
use Rattle.quant.proofs.Casts.{product-around, same-product, back}
use Rattle.quant.proofs.Operations.{gain-is, gain-around}
use Rattle.quant.proofs.gains.gain.Goals as goal

-- the product is that of the definition
numerator : (a k x y : ℤ) → x ≡ a → y ≡ k → Holds contents a → Holds amounts k →
    quotient Floor (to_z w128 (of_z w128 (x *ℤ y))) million ≡ gain Floor k a
numerator a k x y e f h i =
    ap (λ (t : ℤ). quotient Floor t million) (back (x *ℤ y) (a *ℤ k) (same-product x y a k e f)
    (product-around a k greatest_content greatest_amount h i)) ∙ sym (gain-is Floor k a)

gained : (c : goal.After-from-2) → quotient Floor
    (to_z w128 (of_z w128 (to_z w128 (of_z w128 c.from.result) *ℤ to_z w128 (of_z w128 c.from-2.result)))) million
    ≡ gain Floor c.args.k c.args.a
gained c =
    let h = c.requires.number in
    let i = c.requires.ppm in
    numerator c.args.a c.args.k (to_z w128 (of_z w128 c.from.result)) (to_z w128 (of_z w128 c.from-2.result))
    (omega (arith, ints)) (omega (arith, ints)) (record { above = omega (arith, ints); below = omega (arith, ints) })
    (record { above = omega (arith, ints); below = omega (arith, ints) })

pub floor_quotient-requires-clause-fits : goal.floor_quotient-requires-clause-fits
floor_quotient-requires-clause-fits c = let e = gained c in let h =
    gain-around Floor c.args.k c.args.a c.requires.number c.requires.ppm in omega (arith, ints)

pub returns-clause-value : goal.returns-clause-value
returns-clause-value c = let e = c.floor_quotient.ensures ∙ gained c.before in omega (arith, ints)

pub returns-clause-size : goal.returns-clause-size
returns-clause-size c = subst (λ (z : ℤ). Holds contents z) (sym (returns-clause-value c))
    (gain-around Floor c.args.k c.args.a c.requires.number c.requires.ppm)
