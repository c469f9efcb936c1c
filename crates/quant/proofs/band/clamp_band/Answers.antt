-- Clamp rises, so its hull goes from the value at the least to that at the greatest number.
use Rattle.std.proofs.Common.{arith}
use Rattle.std.proofs.lemmas.Int.{ints, clamps}
use Rattle.quant.specs.Interval.{IsBand}
use Rattle.quant.specs.Hull.{hull1, IsValue1}
use Rattle.quant.specs.Operation.{clamp}
use Rattle.quant.proofs.Bands.{clamp-hull, exact_of, ends_same}
use Rattle.quant.proofs.Hulls.{hull1-exact}
use Rattle.quant.proofs.Operations.{clamp-monotone}
use Rattle.quant.proofs.band.clamp_band.Goals as goal

pub invariant_of-result : goal.invariant_of-result
unfolding clamp
invariant_of-result c = omega (arith, ints, clamps)

pub returns-clause-hull : goal.returns-clause-hull
unfolding clamp
returns-clause-hull c =
    let ea = ends_same _ c.args.a c.a.view_is in
    clamp-hull c.args.limits c.args.a _ (record { ordered = omega (arith, ints) })
    (omega (arith, ints, clamps)) (omega (arith, ints, clamps))

pub returns-clause-exact : goal.returns-clause-exact
returns-clause-exact c =
    let ea = ends_same _ c.args.a c.a.view_is in
    let a : IsBand c.args.a = record { ordered = omega (arith, ints) } in
    exact_of (IsValue1 (clamp c.args.limits) c.args.a) _ (hull1 (clamp c.args.limits) c.args.a) (returns-clause-hull c)
    (hull1-exact (clamp c.args.limits) c.args.a a (clamp-monotone c.args.limits))
