use Rattle.std.proofs.Common.{◌≡◌, pos, ◌+ℤ◌, ◌*ℤ◌, to_z, of_z, rules, sym, ◌∙◌, subst, arith}
use Rattle.std.proofs.lemmas.Int.{ints, to_z-of_z}
use Rattle.std.specs.Int.{w64, w128}
use Rattle.quant.specs.Interval.{Holds, around}
use Rattle.quant.specs.Rounding.{quotient, Floor}
use Rattle.quant.specs.Operation.{tray, kept, million, contents, greatest_content, heaviest, stage_contents}
use Rattle.quant.proofs.Calls.{given4}
use Rattle.quant.proofs.Casts.{product-around, same-product, three-fit, three-back, stage_products}
use Rattle.quant.proofs.Stages.{divided, kept-weighs, tray-around}
use Rattle.quant.proofs.trays.tray.Goals.{After-product-own, After-product-above, After-product-below}
use Rattle.quant.proofs.trays.tray.Goals as goal

-- the three products are those of the definition
own : (c : After-product-own) → c.product-own.result ≡ c.args.x *ℤ kept c.args.holdup c.args.slope c.args.l c.args.v
own c =
    let stays = given4 kept _ _ _ _ c.kept.result c.args.holdup c.args.slope c.args.l c.args.v
    (search rules) c.kept.ensures.value
    (to_z-of_z w64 c.args.holdup c.ranges.holdup) (to_z-of_z w64 c.args.slope c.ranges.slope)
    (to_z-of_z w64 c.args.l c.ranges.l) (to_z-of_z w64 c.args.v c.ranges.v)
    in
    c.product-own.ensures ∙ same-product _ _ c.args.x (kept c.args.holdup c.args.slope c.args.l c.args.v)
    (to_z-of_z w64 c.args.x c.ranges.x) stays

above : (c : After-product-above) → c.product-above.result ≡ c.args.xa *ℤ (c.args.l *ℤ million)
above c = c.product-above.ensures ∙ same-product _ _ c.args.xa (c.args.l *ℤ million)
    (to_z-of_z w64 c.args.xa c.ranges.xa) (omega (arith, ints))

below : (c : After-product-below) → c.product-below.result ≡ c.args.yb *ℤ (c.args.v *ℤ million)
below c = c.product-below.ensures ∙ same-product _ _ c.args.yb (c.args.v *ℤ million)
    (to_z-of_z w64 c.args.yb c.ranges.yb) (omega (arith, ints))

-- and so small that their sum fits
own-around : (c : After-product-own) → Holds stage_products c.product-own.result
own-around c =
    let o = c.requires.own in
    let content : Holds contents c.args.x = record { above = omega (arith, ints); below = omega (arith, ints) } in
    let h = kept-weighs c.args.holdup c.args.slope c.args.l c.args.v c.requires.holdup c.requires.slope
    c.requires.liquid c.requires.vapour c.requires.drainable in
    let size : Holds (around heaviest) (kept c.args.holdup c.args.slope c.args.l c.args.v) =
    record { above = omega (arith, ints); below = omega (arith, ints) } in
    subst (Holds stage_products) (sym (own c))
    (product-around c.args.x (kept c.args.holdup c.args.slope c.args.l c.args.v) greatest_content heaviest content
    size)

above-around : (c : After-product-above) → Holds stage_products c.product-above.result
above-around c =
    let o = c.requires.above in
    let content : Holds contents c.args.xa = record { above = omega (arith, ints); below = omega (arith, ints) } in
    let h = c.requires.liquid in
    let size : Holds (around heaviest) (c.args.l *ℤ million) =
    record { above = omega (arith, ints); below = omega (arith, ints) } in
    subst (Holds stage_products) (sym (above c))
    (product-around c.args.xa (c.args.l *ℤ million) greatest_content heaviest content size)

below-around : (c : After-product-below) → Holds stage_products c.product-below.result
below-around c =
    let h = c.requires.vapour in
    let size : Holds (around heaviest) (c.args.v *ℤ million) =
    record { above = omega (arith, ints); below = omega (arith, ints) } in
    subst (Holds stage_products) (sym (below c))
    (product-around c.args.yb (c.args.v *ℤ million) greatest_content heaviest c.requires.below size)

pub overflow_mul-v : goal.overflow_mul-v
overflow_mul-v c = let h = c.requires.vapour in omega (arith, ints)

pub overflow_mul-holdup : goal.overflow_mul-holdup
overflow_mul-holdup c = let h = c.requires.holdup in omega (arith, ints)

pub overflow_add-own : goal.overflow_add-own
overflow_add-own c = let p = own-around c.before.before in let q = above-around c.before in omega (arith, ints)

pub overflow_add-own-2 : goal.overflow_add-own-2
overflow_add-own-2 c = three-fit _ _ _ (own-around c.before.before) (above-around c.before) (below-around c)

divides : (c : After-product-below) →
    quotient Floor
    (to_z w128 (of_z w128 (to_z w128 (of_z w128
    (to_z w128 (of_z w128 c.product-own.result) +ℤ to_z w128 (of_z w128 c.product-above.result))) +ℤ to_z w128
    (of_z w128 c.product-below.result))))
    (to_z w64 (of_z w64 (to_z w64 (of_z w64 c.args.holdup) *ℤ pos 1000000)))
    ≡ tray Floor c.args.holdup c.args.slope c.args.x c.args.xa c.args.yb c.args.l c.args.v
divides c =
    let h = c.requires.holdup in
    divided Floor c.args.holdup c.args.slope c.args.x c.args.xa c.args.yb c.args.l c.args.v c.product-own.result
    c.product-above.result c.product-below.result _ _
    (own c.before.before) (above c.before) (below c)
    (three-back c.product-own.result c.product-above.result c.product-below.result (own-around c.before.before)
    (above-around c.before) (below-around c)) (omega (arith, ints))

pub floor_quotient-requires-clause-positive : goal.floor_quotient-requires-clause-positive
floor_quotient-requires-clause-positive c = let h = c.requires.holdup in omega (arith, ints)

pub floor_quotient-requires-clause-fits : goal.floor_quotient-requires-clause-fits
floor_quotient-requires-clause-fits c =
    let e = divides c in
    let h = tray-around Floor c.args.holdup c.args.slope c.args.x c.args.xa c.args.yb c.args.l c.args.v c.requires.own
    c.requires.above c.requires.below
    c.requires.holdup c.requires.slope c.requires.liquid c.requires.vapour c.requires.drainable in
    omega (arith, ints)

pub returns-clause-value : goal.returns-clause-value
returns-clause-value c = let e = c.floor_quotient.ensures ∙ divides c.before in omega (arith, ints)

pub returns-clause-size : goal.returns-clause-size
returns-clause-size c =
    subst (Holds stage_contents) (sym (returns-clause-value c))
    (tray-around Floor c.args.holdup c.args.slope c.args.x c.args.xa c.args.yb c.args.l c.args.v c.requires.own
    c.requires.above c.requires.below
    c.requires.holdup c.requires.slope c.requires.liquid c.requires.vapour c.requires.drainable)

pub kept-requires : goal.kept-requires
kept-requires c = search rules

pub overflow_mul-l : goal.overflow_mul-l
overflow_mul-l c = search rules
