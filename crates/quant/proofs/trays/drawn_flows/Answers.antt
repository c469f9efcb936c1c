-- The ends are picked by the numbers that the casts and the products are.
use Rattle.std.proofs.Common.{◌≡◌, to_z, of_z, rules, sym, refl, arith}
use Rattle.std.proofs.lemmas.Int.{ints, to_z-of_z}
use Rattle.std.specs.Int.{w64, w128}
use Rattle.quant.proofs.Casts.{read-product}
use Rattle.quant.proofs.Corners.{picked_same}
use Rattle.quant.proofs.trays.drawn_flows.Goals as goal

pub returns : goal.returns
returns c =
    let own : to_z w128 (of_z w128 c.from.result) ≡ c.args.x = omega (arith, ints, c.from.ensures) in
    let above : to_z w128 (of_z w128 c.from-2.result) ≡ c.args.xa = omega (arith, ints, c.from-2.ensures) in
    let x = to_z-of_z w64 c.args.x c.ranges.x in
    let yb = to_z-of_z w64 c.args.yb c.ranges.yb in
    let leaves = read-product _ _ c.product.result _ _ (search rules) c.product.ensures x
    (to_z-of_z w64 c.args.slope c.ranges.slope) in
    let comes = read-product _ _ c.product-2.result _ _ (search rules) c.product-2.ensures yb refl in
    let l = c.drawn_ends-liquid in
    let v = c.drawn_ends-vapour in
    record {
      least_liquid = picked_same _ _ _ _ _ _ _ _ own above
          (sym (to_z-of_z w64 l.result.0 (search rules))) l.ensures.first;
      least_vapour = picked_same _ _ _ _ _ _ _ _ leaves comes
          (sym (to_z-of_z w64 v.result.0 (search rules))) v.ensures.first;
      most_liquid = picked_same _ _ _ _ _ _ _ _ own above
          (sym (to_z-of_z w64 l.result.1 (search rules))) l.ensures.second;
      most_vapour = picked_same _ _ _ _ _ _ _ _ leaves comes
          (sym (to_z-of_z w64 v.result.1 (search rules))) v.ensures.second;
      liquid = search rules;
      vapour = search rules;
    }
