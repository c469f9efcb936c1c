-- The least content is that of the lower ends, and the greatest that of the upper ones, each at the flows that it
-- draws.
use Rattle.std.proofs.Common.{ℤ, ◌*ℤ◌, to_z, of_z, rules, ap, refl}
use Rattle.std.proofs.lemmas.Int.{to_z-of_z}
use Rattle.std.specs.Int.{w64}
use Rattle.quant.specs.Interval.{wide}
use Rattle.quant.specs.Hull.{hull5, IsValue5}
use Rattle.quant.specs.Rounding.{Floor}
use Rattle.quant.specs.Operation.{tray, million, contents}
use Rattle.quant.proofs.Bands.{is_read, read-high}
use Rattle.quant.proofs.Calls.{given7}
use Rattle.quant.proofs.Casts.{same-product}
use Rattle.quant.proofs.Hulls.{hull5-exact, holds-band}
use Rattle.quant.proofs.Stages.{tray-monotone}
use Rattle.quant.proofs.Corners.{takes, tray-drawn, least-drawn, greatest-drawn, flow-held, drainable-held, stage-corners, stage-pushes, IsMade, made}
use Rattle.quant.proofs.trays.tray_band.Goals.{After-tray-2}
use Rattle.quant.proofs.trays.tray_band.Goals as goal

whole : (c : After-tray-2) →
    IsMade (IsValue5 (tray Floor c.args.holdup c.args.slope) c.args.x c.args.xa c.args.yb c.args.l c.args.v)
    (hull5 (tray Floor c.args.holdup c.args.slope) c.args.x c.args.xa c.args.yb c.args.l c.args.v)
    (record { lo = to_z w64 (of_z w64 c.tray.result); hi = to_z w64 (of_z w64 c.tray-2.result) })
whole c =
    let a = c.args in
    let X = is_read _ a.x c.x.view_is c.x.invariant (search rules) (search rules) in
    let A = is_read _ a.xa c.xa.view_is c.xa.invariant (search rules) (search rules) in
    let B = is_read _ a.yb c.yb.view_is c.yb.invariant (search rules) (search rules) in
    let x = X.ends in
    let xa = A.ends in
    let yb = B.ends in
    let h = to_z-of_z w64 a.holdup c.ranges.holdup in
    let s = to_z-of_z w64 a.slope c.ranges.slope in
    let f = c.drawn_flows in
    let g = c.drawn_flows-2 in
    let l = holds-band a.l _ f.ensures.liquid.0 in
    let v = holds-band a.v _ f.ensures.vapour.0 in
    made _ _ _
    (stage-corners Floor a.holdup a.slope a.x a.xa a.yb a.l a.v _ _ X.band A.band B.band
    (stage-pushes a.holdup a.slope a.l a.v c.requires.slope c.requires.liquid c.requires.vapour c.requires.drainable)
    (least-drawn _ _ _ _ _ a.l a.v _ _ _ (tray-drawn Floor a.holdup a.slope a.x.lo a.xa.lo a.yb.lo) l v
    (takes _ _ _ _ _ _ _ _ _ x.0 xa.0 refl refl f.ensures.least_liquid)
    (takes _ _ _ _ _ _ _ _ _ (same-product _ _ _ _ x.0 s)
    (ap (λ (t : ℤ). t *ℤ million) yb.0) refl refl f.ensures.least_vapour)
    (given7 (tray Floor) _ _ _ _ _ _ _ _ _ _ _ _ _ _ _ (search rules) c.tray.ensures.value h s x.0 xa.0 yb.0
    (to_z-of_z w64 f.result.0.0 (search rules)) (to_z-of_z w64 f.result.0.1 (search rules))))
    (greatest-drawn _ _ _ _ _ a.l a.v _ _ _ (tray-drawn Floor a.holdup a.slope a.x.hi a.xa.hi a.yb.hi) l v
    (takes _ _ _ _ _ _ _ _ _ x.1 xa.1 refl refl g.ensures.most_liquid)
    (takes _ _ _ _ _ _ _ _ _ (same-product _ _ _ _ x.1 s)
    (ap (λ (t : ℤ). t *ℤ million) yb.1) refl refl g.ensures.most_vapour)
    (given7 (tray Floor) _ _ _ _ _ _ _ _ _ _ _ _ _ _ _ (search rules) c.tray-2.ensures.value h s x.1 xa.1 yb.1
    (to_z-of_z w64 g.result.1.0 (search rules)) (to_z-of_z w64 g.result.1.1 (search rules)))))
    (hull5-exact (tray Floor a.holdup a.slope) a.x a.xa a.yb a.l a.v X.band A.band B.band l v
    (tray-monotone Floor a.holdup a.slope))

pub invariant_of-result : goal.invariant_of-result
invariant_of-result c = (whole c).ordered

pub returns : goal.returns
returns c = let m = whole c in record { hull = m.hull; exact = m.exact; size = search rules }

pub tray-requires-clause-liquid : goal.tray-requires-clause-liquid
tray-requires-clause-liquid c = flow-held c.args.l _ c.requires.liquid c.drawn_flows.ensures.liquid.0 (search rules)

pub tray-requires-clause-vapour : goal.tray-requires-clause-vapour
tray-requires-clause-vapour c = flow-held c.args.v _ c.requires.vapour c.drawn_flows.ensures.vapour.0 (search rules)

pub tray-requires-clause-drainable : goal.tray-requires-clause-drainable
tray-requires-clause-drainable c =
    drainable-held c.args.holdup c.args.slope c.args.l c.args.v _ _ c.requires.drainable c.requires.slope
    c.drawn_flows.ensures.liquid.0
    c.drawn_flows.ensures.vapour.0 c.ranges.holdup c.ranges.slope (search rules) (search rules)

pub tray-requires-2-clause-liquid : goal.tray-requires-2-clause-liquid
tray-requires-2-clause-liquid c = flow-held c.args.l _ c.requires.liquid c.drawn_flows-2.ensures.liquid.1 (search rules)

pub tray-requires-2-clause-vapour : goal.tray-requires-2-clause-vapour
tray-requires-2-clause-vapour c = flow-held c.args.v _ c.requires.vapour c.drawn_flows-2.ensures.vapour.1 (search rules)

pub tray-requires-2-clause-drainable : goal.tray-requires-2-clause-drainable
tray-requires-2-clause-drainable c =
    drainable-held c.args.holdup c.args.slope c.args.l c.args.v _ _ c.requires.drainable c.requires.slope
    c.drawn_flows-2.ensures.liquid.1
    c.drawn_flows-2.ensures.vapour.1 c.ranges.holdup c.ranges.slope (search rules) (search rules)

pub tray-requires-2-clause-own : goal.tray-requires-2-clause-own
tray-requires-2-clause-own c = read-high _ _ wide c.x.view_is c.x.invariant (search rules) c.requires.own

pub tray-requires-2-clause-above : goal.tray-requires-2-clause-above
tray-requires-2-clause-above c = read-high _ _ wide c.xa.view_is c.xa.invariant (search rules) c.requires.above

pub tray-requires-2-clause-below : goal.tray-requires-2-clause-below
tray-requires-2-clause-below c = read-high _ _ contents c.yb.view_is c.yb.invariant (search rules) c.requires.below
