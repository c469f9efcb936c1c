-- A gain is least and greatest at the ends that the sign of its ppm picks.
use Rattle.std.proofs.Common.{to_z, of_z, rules, sym, subst, refl}
use Rattle.std.proofs.lemmas.Int.{to_z-of_z}
use Rattle.std.specs.Int.{w64}
use Rattle.quant.specs.Hull.{hull1, IsValue1}
use Rattle.quant.specs.Interval.{Holds}
use Rattle.quant.specs.Rounding.{Floor}
use Rattle.quant.specs.Operation.{gain, amounts}
use Rattle.quant.proofs.Bands.{read-band, read-ends}
use Rattle.quant.proofs.Calls.{given2}
use Rattle.quant.proofs.Hulls.{hull1-exact, inside-holds}
use Rattle.quant.proofs.Operations.{gain-drawn, gain-monotone}
use Rattle.quant.proofs.Corners.{takes, takes-held, drawn-hull, IsMade, made}
use Rattle.quant.proofs.gains.gain_band.Goals as goal

whole : (c : goal.After-gain-2) → IsMade (IsValue1 (gain Floor c.args.k) c.args.a) (hull1 (gain Floor c.args.k) c.args.a)
    (record { lo = to_z w64 (of_z w64 c.gain.result); hi = to_z w64 (of_z w64 c.gain-2.result) })
whole c =
    let a = read-ends _ c.args.a c.a.view_is (search rules) (search rules) in
    let k = to_z-of_z w64 c.args.k c.ranges.k in
    let band = read-band _ _ c.a.view_is c.a.invariant in
    made _ _ _
    (drawn-hull _ _ (gain Floor c.args.k) c.args.a c.by_sign.result c.by_sign-2.result _ _ (gain-drawn Floor c.args.k)
    band
    (takes _ _ _ _ _ _ _ _ _ refl k a.0 a.1 c.by_sign.ensures)
    (takes _ _ _ _ _ _ _ _ _ refl k a.1 a.0 c.by_sign-2.ensures)
    (given2 (gain Floor) _ _ c.gain.result c.args.k c.by_sign.result (search rules) c.gain.ensures.value k
    (to_z-of_z w64 _ (search rules)))
    (given2 (gain Floor) _ _ c.gain-2.result c.args.k c.by_sign-2.result (search rules) c.gain-2.ensures.value k
    (to_z-of_z w64 _ (search rules))))
    (hull1-exact (gain Floor c.args.k) c.args.a band (gain-monotone Floor c.args.k))

pub invariant_of-result : goal.invariant_of-result
invariant_of-result c = (whole c).ordered

pub returns : goal.returns
returns c = let m = whole c in record { hull = m.hull; exact = m.exact; size = search rules }

pub gain-requires-2-clause-number : goal.gain-requires-2-clause-number
gain-requires-2-clause-number c =
    let a = read-ends _ c.args.a c.a.view_is (search rules) (search rules) in
    let k = to_z-of_z w64 c.args.k c.ranges.k in
    subst (Holds amounts) (sym (to_z-of_z w64 c.by_sign-2.result (search rules)))
    (inside-holds c.args.a amounts c.by_sign-2.result c.requires.number
    (takes-held _ _ c.args.a _ (read-band _ _ c.a.view_is c.a.invariant)
    (takes _ _ _ _ _ _ _ _ _ refl k a.1 a.0 c.by_sign-2.ensures)))
