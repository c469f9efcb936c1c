-- The least sum is that of the lesser ends, the greatest that of the greater ones.
use Rattle.std.proofs.Common.{rules, ◌+ℤ◌, arith}
use Rattle.std.proofs.lemmas.Int.{ints}
use Rattle.quant.specs.Hull.{IsValue2}
use Rattle.quant.proofs.Bands.{sum-hull, exact2, ends_same, read-band}
use Rattle.quant.proofs.Corners.{hull-ordered}
use Rattle.quant.proofs.Operations.{sum-monotone}
use Rattle.quant.proofs.sums.add_band.Goals as goal

pub returns-clause-hull : goal.returns-clause-hull
returns-clause-hull c =
    let a = ends_same _ c.args.a c.a.view_is in
    let b = ends_same _ c.args.b c.b.view_is in
    sum-hull c.args.a c.args.b _ (read-band _ _ c.a.view_is c.a.invariant) (read-band _ _ c.b.view_is c.b.invariant)
    (omega (arith, ints)) (omega (arith, ints))

pub returns-clause-exact : goal.returns-clause-exact
returns-clause-exact c =
    exact2 ◌+ℤ◌ c.args.a c.args.b _ sum-monotone (read-band _ _ c.a.view_is c.a.invariant)
    (read-band _ _ c.b.view_is c.b.invariant)
    (returns-clause-hull c)

pub invariant_of-result : goal.invariant_of-result
invariant_of-result c = hull-ordered (IsValue2 ◌+ℤ◌ c.args.a c.args.b) _ (returns-clause-exact c)

pub overflow_add-result : goal.overflow_add-result
overflow_add-result c = search rules

pub overflow_add-result-2 : goal.overflow_add-result-2
overflow_add-result-2 c = search rules
