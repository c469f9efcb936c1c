use Rattle.std.proofs.Common.{rules, ◌≡◌, ◌*ℤ◌, to_z, of_z, sym, subst, arith}
use Rattle.std.proofs.lemmas.Int.{ints, to_z-of_z}
use Rattle.std.specs.Int.{w64}
use Rattle.quant.specs.Interval.{Holds}
use Rattle.quant.specs.Operation.{weights}
use Rattle.quant.proofs.Casts.{same-product}
use Rattle.quant.proofs.Stages.{leaving, kept-weighs}
use Rattle.quant.proofs.trays.kept.Goals as goal

-- what leaves with the vapour
left : (c : goal.Start) → to_z w64 (of_z w64 c.args.v) *ℤ to_z w64 (of_z w64 c.args.slope) ≡ c.args.v *ℤ c.args.slope
left c = same-product _ _ c.args.v c.args.slope (to_z-of_z w64 c.args.v c.ranges.v)
    (to_z-of_z w64 c.args.slope c.ranges.slope)

pub overflow_sub-result-2 : goal.overflow_sub-result-2
overflow_sub-result-2 c =
    let e = left c in
    let n = leaving c.args.slope c.args.v c.requires.slope c.requires.vapour in
    omega (arith, ints)

pub returns-clause-value : goal.returns-clause-value
returns-clause-value c =
    let e = left c in
    let n = leaving c.args.slope c.args.v c.requires.slope c.requires.vapour in
    omega (arith, ints)

pub returns-clause-size : goal.returns-clause-size
returns-clause-size c =
    subst (Holds weights) (sym (returns-clause-value c))
    (kept-weighs c.args.holdup c.args.slope c.args.l c.args.v c.requires.holdup c.requires.slope c.requires.liquid
    c.requires.vapour c.requires.drainable)

pub overflow_mul-result : goal.overflow_mul-result
overflow_mul-result c = search rules

pub overflow_mul-result-2 : goal.overflow_mul-result-2
overflow_mul-result-2 c = search rules

pub overflow_mul-result-3 : goal.overflow_mul-result-3
overflow_mul-result-3 c = search rules
