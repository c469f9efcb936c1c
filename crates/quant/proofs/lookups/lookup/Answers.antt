use Rattle.std.proofs.Common.{rules, ◌≡◌, pos, ◌+ℤ◌, ◌-◌, ◌+◌, FitsSigned, to_z, of_z, get_or, drop, ap, ◌∙◌, subst, arith}
use Rattle.std.proofs.lemmas.Int.{ints, to_z-of_z}
use Rattle.std.proofs.lemmas.List.Elements.{All-get_or}
use Rattle.std.specs.Int.{w64}
use Rattle.quant.specs.Interval.{Holds}
use Rattle.quant.specs.Rounding.{Floor}
use Rattle.quant.specs.Operation.{lookup, passed}
use Rattle.quant.specs.Table.{HasRate, rates}
use Rattle.quant.proofs.Tables.{IsUnderWay, passed-between, under-way-start, under-way-more, under-way-points, under-way-end}
use Rattle.quant.proofs.lookups.lookup.Goals.{After-passed-rate, After-loop-i}
use Rattle.quant.proofs.lookups.lookup.Goals as goal

pub loop-i-init : goal.loop-i-init
loop-i-init c =
    let points = c.as_slice-points.result.now in
    let h = c.as_slice-points.ensures.table in
    let p = All-get_or HasRate points 0 (pos 0, pos 0) (omega (arith, h.some)) h.each in
    under-way-start points (pos 0, pos 0) _ _ h (omega (arith, ints))

-- the rise that is added, and the rate with it
added : (c : After-passed-rate) →
    let before = c.loop-i.i - 1 in
    let points = c.as_slice-points.result.now in
    let rise = passed Floor (get_or points before (pos 0, pos 0)) (get_or points c.loop-i.i (pos 0, pos 0))
    (to_z w64 (of_z w64 c.args.t)) in
    FitsSigned w64 (to_z w64 c.loop-i.rate-bits +ℤ to_z w64 (of_z w64 c.passed-rate.result))
    × (to_z w64 (of_z w64 (to_z w64 c.loop-i.rate-bits +ℤ to_z w64 (of_z w64 c.passed-rate.result)))
    ≡ to_z w64 c.loop-i.rate-bits +ℤ rise)
added c =
    let points = c.as_slice-points.result.now in
    let w = c.loop-i.invariant in
    let u = under-way-points points c.loop-i.i (pos 0, pos 0) _ _ c.loop-i.auto.i c.loop-i-test.true w in
    let b = passed-between Floor (get_or points (c.loop-i.i - 1) (pos 0, pos 0))
    (get_or points c.loop-i.i (pos 0, pos 0)) (to_z w64 (of_z w64 c.args.t)) u.2 in
    let f = u.0 in
    let g = u.1 in
    (omega (arith, ints, c.passed-rate.ensures, u.3, w.above), omega (arith, ints, c.passed-rate.ensures, u.3, w.above))

pub overflow_add-rate : goal.overflow_add-rate
overflow_add-rate c = (added c).0

pub loop-i-preserved : goal.loop-i-preserved
loop-i-preserved c =
    let points = c.as_slice-points.result.now in
    let next = under-way-more points c.loop-i.i (pos 0, pos 0) _ _ _ c.loop-i.auto.i c.loop-i-test.true
    c.loop-i.invariant (added c).1 in
    let back : c.loop-i.i ≡ c.loop-i.i + 1 - 1 = omega arith in
    subst (λ n. IsUnderWay points (drop n points) (to_z w64 (of_z w64 c.args.t))
    (to_z w64 (of_z w64 (to_z w64 c.loop-i.rate-bits +ℤ to_z w64 (of_z w64 c.passed-rate.result))))) back next

ended : (c : After-loop-i) → (to_z w64 c.loop-i.rate-bits ≡ lookup Floor c.as_slice-points.result.now
    (to_z w64 (of_z w64 c.args.t))) × Holds rates (to_z w64 c.loop-i.rate-bits)
ended c =
    let h = c.as_slice-points.ensures.table in
    under-way-end c.as_slice-points.result.now c.loop-i.i _ _ (omega (arith, h.some)) c.loop-i.auto.i c.loop-i.invariant

pub returns-clause-value : goal.returns-clause-value
returns-clause-value c =
    (ended c).0 ∙ ap (λ t. lookup Floor c.as_slice-points.result.now t) (to_z-of_z w64 c.args.t c.ranges.t) ∙
    ap (λ points. lookup Floor points c.args.t) c.as_slice-points.ensures.points

pub returns-clause-rate : goal.returns-clause-rate
returns-clause-rate c = (ended c).1

pub bounds-points-0 : goal.bounds-points-0
bounds-points-0 c = search rules

pub overflow_sub-i : goal.overflow_sub-i
overflow_sub-i c = search rules

pub offset_bounds-points-i : goal.offset_bounds-points-i
offset_bounds-points-i c = search rules

pub bounds-points-i : goal.bounds-points-i
bounds-points-i c = search rules

pub offset_bounds-points-i-in-loop-i : goal.offset_bounds-points-i-in-loop-i
offset_bounds-points-i-in-loop-i c = search rules

pub bounds-points-i-in-loop-i : goal.bounds-points-i-in-loop-i
bounds-points-i-in-loop-i c = search rules

pub passed-rate-requires-clause-from : goal.passed-rate-requires-clause-from
passed-rate-requires-clause-from c = search rules

pub passed-rate-requires-clause-to : goal.passed-rate-requires-clause-to
passed-rate-requires-clause-to c = search rules
