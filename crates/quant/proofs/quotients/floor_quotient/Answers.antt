use Rattle.std.proofs.Common.{◌≡◌, to_z, of_z, arith}
use Rattle.std.proofs.lemmas.Int.{ints, to_z-of_z}
use Rattle.std.specs.Int.{w64, w128}
use Rattle.quant.specs.Rounding.{quotient, Floor}
use Rattle.quant.proofs.Division.{quotient-floor}
use Rattle.quant.proofs.quotients.floor_quotient.Goals as goal

-- both divisions give the quotient
wide : (c : goal.After-div_euclid-in-Err) → c.div_euclid-in-Err.result ≡ quotient Floor c.args.a c.args.b
wide c =
    quotient-floor c.args.a c.args.b (to_z w128 (of_z w128 c.args.a))
    (to_z w128 (of_z w128 c.from.result)) c.div_euclid-in-Err.result c.requires.positive
    (to_z-of_z w128 c.args.a c.ranges.a)
    (omega (arith, ints, c.from.ensures))
    c.div_euclid-in-Err.ensures

pub overflow_cast-result : goal.overflow_cast-result
overflow_cast-result c = let e = wide c in omega (arith, ints)

pub returns-in-Ok : goal.returns-in-Ok
returns-in-Ok c =
    let s = c.in-Ok.ensures in
    let e : c.div_euclid.result ≡ quotient Floor c.args.a c.args.b =
    quotient-floor c.args.a c.args.b (to_z w64 (of_z w64 c.in-Ok.small))
    (to_z w64 (of_z w64 c.args.b)) c.div_euclid.result c.requires.positive
    (omega (arith, ints, s.0, s.1))
    (to_z-of_z w64 c.args.b c.ranges.b)
    c.div_euclid.ensures
    in
    omega (arith, ints)

pub returns-in-Err : goal.returns-in-Err
returns-in-Err c = let e = wide c in omega (arith, ints)
