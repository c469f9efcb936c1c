use Rattle.std.proofs.Common.{◌≡◌, pos, ◌+ℤ◌, ◌-ℤ◌, ◌*ℤ◌, ℤ, to_z, of_z, sym, ◌∙◌, ap, arith}
use Rattle.std.proofs.lemmas.Int.{ints, to_z-of_z}
use Rattle.std.specs.Int.{w64, w128, int_max, int_min}
use Rattle.quant.specs.Interval.{Holds}
use Rattle.quant.specs.Rounding.{quotient, Floor}
use Rattle.quant.specs.Operation.{blend, part, volumes, amounts, greatest_amount, greatest_content}
use Rattle.quant.proofs.Casts.{product-around, same-product, fits, sum-fits, sum-back, products, IsFound, found-fits, found-read}
use Rattle.quant.proofs.Operations.{weighed, part-above, part-below, blend-is, blend-between}
use Rattle.quant.proofs.blends.blend.Goals as goal

-- what is kept and what is replaced are no more than the volume
replaced-around : (v m n : ℤ) → Holds volumes v → n ≡ part v m → Holds amounts n
replaced-around v m n h e =
    let low = part-above v m in
    let high = part-below v m (omega (arith, ints)) in
    record { above = omega (arith, ints); below = omega (arith, ints) }

kept-around : (v m n : ℤ) → Holds volumes v → n ≡ part v m → Holds amounts (v -ℤ n)
kept-around v m n h e =
    let low = part-above v m in
    let high = part-below v m (omega (arith, ints)) in
    record { above = omega (arith, ints); below = omega (arith, ints) }

replaced : (c : goal.After-from-2) → c.clamp-replaced.result ≡ part c.args.v c.args.m
replaced c =
    c.clamp-replaced.ensures.value
    ∙ ap (λ (t : ℤ). int_max (pos 0) (int_min t (to_z w64 (of_z w64 c.args.v)))) (to_z-of_z w64 c.args.m c.ranges.m)
    ∙ ap (λ (t : ℤ). part t c.args.m) (to_z-of_z w64 c.args.v c.ranges.v)

-- the two products are those of the definition
first : (c : goal.After-from-2) → to_z w128 (of_z w128 c.from.result) *ℤ to_z w128 (of_z w128 c.from-2.result)
    ≡ c.args.c *ℤ (c.args.v -ℤ c.clamp-replaced.result)
first c =
    let k = kept-around c.args.v c.args.m c.clamp-replaced.result c.requires.volume (replaced c) in
    same-product (to_z w128 (of_z w128 c.from.result)) (to_z w128 (of_z w128 c.from-2.result)) c.args.c
    (c.args.v -ℤ c.clamp-replaced.result)
    (omega (arith, ints)) (omega (arith, ints))

first-around : (c : goal.After-from-2) → Holds products (c.args.c *ℤ (c.args.v -ℤ c.clamp-replaced.result))
first-around c =
    product-around c.args.c (c.args.v -ℤ c.clamp-replaced.result) greatest_content greatest_amount c.requires.old
    (kept-around c.args.v c.args.m c.clamp-replaced.result c.requires.volume (replaced c))

second : (c : goal.After-from-4) → to_z w128 (of_z w128 c.from-3.result) *ℤ to_z w128 (of_z w128 c.from-4.result)
    ≡ c.args.d *ℤ c.clamp-replaced.result
second c =
    same-product (to_z w128 (of_z w128 c.from-3.result))
    (to_z w128 (of_z w128 c.from-4.result)) c.args.d c.clamp-replaced.result
    (omega (arith, ints)) (omega (arith, ints))

second-around : (c : goal.After-from-4) → Holds products (c.args.d *ℤ c.clamp-replaced.result)
second-around c =
    product-around c.args.d c.clamp-replaced.result greatest_content greatest_amount c.requires.added
    (replaced-around c.args.v c.args.m c.clamp-replaced.result c.requires.volume (replaced c.before.before))

pub overflow_mul-weighed : goal.overflow_mul-weighed
overflow_mul-weighed c =
    fits (to_z w128 (of_z w128 c.from.result) *ℤ to_z w128 (of_z w128 c.from-2.result))
    (c.args.c *ℤ (c.args.v -ℤ c.clamp-replaced.result)) (first c) (first-around c)

pub overflow_add-weighed : goal.overflow_add-weighed
overflow_add-weighed c =
    sum-fits (to_z w128 (of_z w128 c.from.result) *ℤ to_z w128 (of_z w128 c.from-2.result))
    (to_z w128 (of_z w128 c.from-3.result) *ℤ to_z w128 (of_z w128 c.from-4.result))
    (c.args.c *ℤ (c.args.v -ℤ c.clamp-replaced.result)) (c.args.d *ℤ c.clamp-replaced.result)
    (first c.before.before) (second c) (first-around c.before.before) (second-around c)

blended : (c : goal.After-from-4) → IsFound c.args.c c.args.d
    (quotient Floor
    (to_z w128 (of_z w128 (to_z w128 (of_z w128
    (to_z w128 (of_z w128 c.from.result) *ℤ to_z w128 (of_z w128 c.from-2.result)))
    +ℤ to_z w128 (of_z w128 (to_z w128 (of_z w128 c.from-3.result) *ℤ to_z w128 (of_z w128 c.from-4.result))))))
    (to_z w64 (of_z w64 c.args.v)))
    (blend Floor c.args.c c.args.d c.args.m c.args.v)
blended c =
    let sum = sum-back (to_z w128 (of_z w128 c.from.result) *ℤ to_z w128 (of_z w128 c.from-2.result))
    (to_z w128 (of_z w128 c.from-3.result) *ℤ to_z w128 (of_z w128 c.from-4.result))
    (c.args.c *ℤ (c.args.v -ℤ c.clamp-replaced.result)) (c.args.d *ℤ c.clamp-replaced.result)
    (first c.before.before) (second c) (first-around c.before.before) (second-around c)
    in
    record {
      held = (c.requires.old, c.requires.added);
      between = blend-between Floor c.args.c c.args.d c.args.m c.args.v;
      same = ap (λ (t : ℤ). quotient Floor t (to_z w64 (of_z w64 c.args.v))) sum
          ∙ ap (quotient Floor (weighed c.args.c c.args.d c.args.v c.clamp-replaced.result))
          (to_z-of_z w64 c.args.v c.ranges.v)
          ∙ sym (blend-is Floor c.args.c c.args.d c.args.m c.args.v c.clamp-replaced.result c.requires.volume.above
          (replaced c.before.before));
    }

pub floor_quotient-requires-clause-fits : goal.floor_quotient-requires-clause-fits
floor_quotient-requires-clause-fits c = found-fits _ _ _ _ (blended c)

pub returns : goal.returns
returns c = let read = found-read _ _ _ _ _ c.floor_quotient.ensures (blended c.before) in
    record { value = read.0; between = read.1 }
