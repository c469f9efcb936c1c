use Rattle.std.proofs.Common.{◌≡◌, pos, ◌*ℤ◌, ℤ, to_z, of_z, sym, ◌∙◌, ap, subst, arith}
use Rattle.std.proofs.lemmas.Int.{ints, to_z-of_z}
use Rattle.std.specs.Int.{w64, w128}
use Rattle.quant.specs.Interval.{Holds, join, point}
use Rattle.quant.specs.Rounding.{quotient, Floor}
use Rattle.quant.specs.Operation.{share, part, million, amounts, contents, greatest_amount, greatest_content}
use Rattle.quant.proofs.Casts.{product-around, same-product, back}
use Rattle.quant.proofs.Operations.{part-above, part-below, share-is, share-between, share-around}
use Rattle.quant.proofs.shares.share.Goals as goal

-- the product is that of the definition
numerator : (a g x y p : ℤ) → x ≡ a → y ≡ p → p ≡ part million g → Holds contents a →
    quotient Floor (to_z w128 (of_z w128 (x *ℤ y))) million ≡ share Floor a g
numerator a g x y p e f i h =
    let n = part million g in
    let low = part-above million g in
    let high = part-below million g (omega (arith, ints)) in
    let size : Holds amounts n = record { above = omega (arith, ints); below = omega (arith, ints) } in
    ap (λ (t : ℤ). quotient Floor t million) (back (x *ℤ y) (a *ℤ n) (same-product x y a n e (f ∙ i))
    (product-around a n greatest_content greatest_amount h size)) ∙ sym (share-is Floor a g)

shared : (c : goal.After-from-2) → quotient Floor
    (to_z w128 (of_z w128 (to_z w128 (of_z w128 c.from.result) *ℤ to_z w128 (of_z w128 c.from-2.result)))) million
    ≡ share Floor c.args.a c.args.g
shared c =
    numerator c.args.a c.args.g (to_z w128 (of_z w128 c.from.result))
    (to_z w128 (of_z w128 c.from-2.result)) c.clamp-part.result
    (omega (arith, ints))
    (omega (arith, ints))
    (c.clamp-part.ensures.value ∙ ap (part million) (to_z-of_z w64 c.args.g c.ranges.g))
    c.requires

pub floor_quotient-requires-clause-fits : goal.floor_quotient-requires-clause-fits
floor_quotient-requires-clause-fits c = let e = shared c in let h =
    share-around Floor c.args.a c.args.g greatest_content c.requires in omega (arith, ints)

pub returns-clause-value : goal.returns-clause-value
returns-clause-value c = let e = c.floor_quotient.ensures ∙ shared c.before in omega (arith, ints)

pub returns-clause-between : goal.returns-clause-between
returns-clause-between c = subst (λ (z : ℤ). Holds (join (point (pos 0)) (point c.args.a)) z)
    (sym (returns-clause-value c)) (share-between Floor c.args.a c.args.g)
