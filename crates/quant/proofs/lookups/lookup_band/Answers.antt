-- A lookup rises, so its hull goes from the value at the least to that at the greatest temperature.
use Rattle.std.proofs.Common.{◌≡◌, to_z, of_z, rules, FitsSigned, ap, subst, ◌∙◌}
use Rattle.std.proofs.lemmas.Int.{to_z-of_z}
use Rattle.std.specs.Int.{w64}
use Rattle.quant.specs.Interval.{Interval, IsBand}
use Rattle.quant.specs.Hull.{hull1, IsHull, IsValue1}
use Rattle.quant.specs.Rounding.{Floor}
use Rattle.quant.specs.Operation.{lookup}
use Rattle.quant.proofs.Bands.{hull1-ends, exact_of}
use Rattle.quant.proofs.Calls.{given1}
use Rattle.quant.proofs.Corners.{hull-ordered}
use Rattle.quant.proofs.Hulls.{hull1-exact}
use Rattle.quant.proofs.Tables.{lookup-rises, lookup-monotone}
use Rattle.quant.proofs.lookups.lookup_band.Goals.{After-lookup-2}
use Rattle.quant.proofs.lookups.lookup_band.Goals as goal

band-t : (c : After-lookup-2) → IsBand c.args.t
band-t c = subst IsBand c.t.view_is (record { ordered = c.t.invariant })

hull : (c : After-lookup-2) → record {
  lo = to_z w64 (of_z w64 c.lookup.result);
  hi = to_z w64 (of_z w64 c.lookup-2.result);
} ≡ hull1 (lookup Floor c.args.table.now) c.args.t
hull c =
    let a : FitsSigned w64 c.t.inside.lo = search rules in
    let b : FitsSigned w64 c.t.inside.hi = search rules in
    let R : Interval = record { lo = to_z w64 (of_z w64 c.lookup.result); hi = to_z w64 (of_z w64 c.lookup-2.result) }
    in
    hull1-ends (lookup Floor c.args.table.now) c.args.t R
    (lookup-rises Floor c.args.table.now c.args.t.lo c.args.t.hi (band-t c).ordered)
    (given1 (lookup Floor c.args.table.now) _ c.lookup.result c.args.t.lo (search rules) c.lookup.ensures.value
    (to_z-of_z w64 c.t.inside.lo a ∙ ap (λ (A : Interval). A.lo) c.t.view_is))
    (given1 (lookup Floor c.args.table.now) _ c.lookup-2.result c.args.t.hi (search rules) c.lookup-2.ensures.value
    (to_z-of_z w64 c.t.inside.hi b ∙ ap (λ (A : Interval). A.hi) c.t.view_is))

exact : (c : After-lookup-2) → IsHull (IsValue1 (lookup Floor c.args.table.now) c.args.t)
    (record { lo = to_z w64 (of_z w64 c.lookup.result); hi = to_z w64 (of_z w64 c.lookup-2.result) })
exact c =
    exact_of (IsValue1 (lookup Floor c.args.table.now) c.args.t) _ (hull1 (lookup Floor c.args.table.now) c.args.t)
    (hull c)
    (hull1-exact (lookup Floor c.args.table.now) c.args.t (band-t c) (lookup-monotone Floor c.args.table.now))

pub invariant_of-result : goal.invariant_of-result
invariant_of-result c = hull-ordered _ _ (exact c)

pub returns-clause-hull : goal.returns-clause-hull
returns-clause-hull c = hull c

pub returns-clause-exact : goal.returns-clause-exact
returns-clause-exact c = exact c
