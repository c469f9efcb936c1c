use Rattle.std.proofs.Common.{rules, ◌≡◌, pos, ◌+ℤ◌, ◌*ℤ◌, ℤ, ◌≤ℤ◌, to_z, of_z, sym, ◌∙◌, ap, arith}
use Rattle.std.proofs.lemmas.Int.{ints, clamps, to_z-of_z}
use Rattle.std.specs.Int.{w64, w128}
use Rattle.quant.specs.Interval.{Holds}
use Rattle.quant.specs.Rounding.{quotient, Floor}
use Rattle.quant.specs.Operation.{mix, flows, not_negative, amounts, greatest_amount, greatest_content}
use Rattle.quant.proofs.Casts.{product-around, same-product, sum-fits, sum-back, products, IsFound, found-fits, found-read}
use Rattle.quant.proofs.Mixing.{both, mix-flows, mix-still, mix-between}
use Rattle.quant.proofs.mixes.mix.Goals as goal

pub returns-then-both-eq0-clause-value : goal.returns-then-both-eq0-clause-value
returns-then-both-eq0-clause-value c =
    let h = c.requires.first_flow in
    let k = c.requires.second_flow in
    let e = c.if-both-eq0.true in
    to_z-of_z w64 c.args.c c.ranges.c ∙ sym (mix-still Floor c.args.c c.args.d c.args.m c.args.n
    (omega (arith, ints, clamps)))

-- the two products are those of the definition
flow-around : (m : ℤ) → Holds flows m → Holds amounts m
flow-around m h = record { above = omega (arith, ints); below = omega (arith, ints) }

first : (c : goal.After-from-4) → to_z w128 (of_z w128 c.from.result) *ℤ to_z w128 (of_z w128 c.from-2.result)
    ≡ c.args.c *ℤ c.args.m
first c = same-product (to_z w128 (of_z w128 c.from.result)) (to_z w128 (of_z w128 c.from-2.result)) c.args.c c.args.m
    (omega (arith, ints)) (omega (arith, ints))

first-around : (c : goal.After-from-4) → Holds products (c.args.c *ℤ c.args.m)
first-around c = product-around c.args.c c.args.m greatest_content greatest_amount c.requires.first
    (flow-around c.args.m c.requires.first_flow)

second : (c : goal.After-from-4) → to_z w128 (of_z w128 c.from-3.result) *ℤ to_z w128 (of_z w128 c.from-4.result)
    ≡ c.args.d *ℤ c.args.n
second c = same-product (to_z w128 (of_z w128 c.from-3.result))
    (to_z w128 (of_z w128 c.from-4.result)) c.args.d c.args.n (omega (arith, ints)) (omega (arith, ints))

second-around : (c : goal.After-from-4) → Holds products (c.args.d *ℤ c.args.n)
second-around c = product-around c.args.d c.args.n greatest_content greatest_amount c.requires.second
    (flow-around c.args.n c.requires.second_flow)

pub overflow_add-weighed : goal.overflow_add-weighed
overflow_add-weighed c =
    sum-fits (to_z w128 (of_z w128 c.from.result) *ℤ to_z w128 (of_z w128 c.from-2.result))
    (to_z w128 (of_z w128 c.from-3.result) *ℤ to_z w128 (of_z w128 c.from-4.result))
    (c.args.c *ℤ c.args.m) (c.args.d *ℤ c.args.n) (first c) (second c) (first-around c) (second-around c)

-- flows that are not negative are themselves
same_flow : (m : ℤ) → Holds flows m → m ≡ not_negative m
same_flow m h = omega (arith, ints, clamps)

same_mix : (c d m n k l t : ℤ) → m ≡ k → n ≡ l → t ≡ k +ℤ l →
    quotient Floor (c *ℤ m +ℤ d *ℤ n) t ≡ quotient Floor (c *ℤ k +ℤ d *ℤ l) (k +ℤ l)
same_mix c d m n k l t e f g =
    ap (λ (x : ℤ). quotient Floor (c *ℤ x +ℤ d *ℤ n) t) e ∙ ap (λ (x : ℤ). quotient Floor (c *ℤ k +ℤ d *ℤ x) t) f ∙
    ap (quotient Floor (c *ℤ k +ℤ d *ℤ l)) g

mixed : (c : goal.After-from-4) → IsFound c.args.c c.args.d
    (quotient Floor
    (to_z w128 (of_z w128 (to_z w128 (of_z w128
    (to_z w128 (of_z w128 c.from.result) *ℤ to_z w128 (of_z w128 c.from-2.result)))
    +ℤ to_z w128 (of_z w128 (to_z w128 (of_z w128 c.from-3.result) *ℤ to_z w128 (of_z w128 c.from-4.result))))))
    (to_z w64 (of_z w64 (to_z w64 (of_z w64 c.args.m) +ℤ to_z w64 (of_z w64 c.args.n)))))
    (mix Floor c.args.c c.args.d c.args.m c.args.n)
mixed c =
    let h = c.requires.first_flow in
    let k = c.requires.second_flow in
    let m = same_flow c.args.m h in
    let n = same_flow c.args.n k in
    let some = c.if-both-eq0.false in
    let total : to_z w64 (of_z w64 (to_z w64 (of_z w64 c.args.m) +ℤ to_z w64 (of_z w64 c.args.n)))
    ≡ c.args.m +ℤ c.args.n = omega (arith, ints) in
    let flows : pos 1 ≤ℤ both c.args.m c.args.n = omega (arith, ints) in
    let sum = sum-back (to_z w128 (of_z w128 c.from.result) *ℤ to_z w128 (of_z w128 c.from-2.result))
    (to_z w128 (of_z w128 c.from-3.result) *ℤ to_z w128 (of_z w128 c.from-4.result))
    (c.args.c *ℤ c.args.m) (c.args.d *ℤ c.args.n) (first c) (second c) (first-around c) (second-around c)
    in
    record {
      held = (c.requires.first, c.requires.second);
      between = mix-between Floor c.args.c c.args.d c.args.m c.args.n;
      same = ap (λ (t : ℤ). quotient Floor t (to_z w64 (of_z w64
          (to_z w64 (of_z w64 c.args.m) +ℤ to_z w64 (of_z w64 c.args.n))))) sum
          ∙ same_mix c.args.c c.args.d c.args.m c.args.n (not_negative c.args.m) (not_negative c.args.n)
          (to_z w64 (of_z w64 (to_z w64 (of_z w64 c.args.m) +ℤ to_z w64 (of_z w64 c.args.n)))) m n
          (omega (arith, ints))
          ∙ sym (mix-flows Floor c.args.c c.args.d c.args.m c.args.n flows);
    }

pub floor_quotient-requires-clause-fits : goal.floor_quotient-requires-clause-fits
floor_quotient-requires-clause-fits c = found-fits _ _ _ _ (mixed c)

pub returns : goal.returns
returns c = let read = found-read _ _ _ _ _ c.floor_quotient.ensures (mixed c.before) in
    record { value = read.0; between = read.1 }

pub overflow_add-both : goal.overflow_add-both
overflow_add-both c = search rules

pub returns-then-both-eq0-clause-between : goal.returns-then-both-eq0-clause-between
returns-then-both-eq0-clause-between c = search rules

pub overflow_mul-weighed : goal.overflow_mul-weighed
overflow_mul-weighed c = search rules

pub overflow_mul-weighed-2 : goal.overflow_mul-weighed-2
overflow_mul-weighed-2 c = search rules

pub floor_quotient-requires-clause-positive : goal.floor_quotient-requires-clause-positive
floor_quotient-requires-clause-positive c = search rules
