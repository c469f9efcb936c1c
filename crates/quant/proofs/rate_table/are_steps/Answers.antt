use Rattle.std.proofs.Common.{◌≡◌, ◌↔◌, ◌+◌, ◌-◌, pos, drop, IsTrue, refl, subst, arith}
use Rattle.quant.specs.Table.{AreSteps}
use Rattle.quant.proofs.Tables.{steps-from, last-step}
use Rattle.quant.proofs.rate_table.are_steps.Goals as goal

pub returns-then-not-is_step : goal.returns-then-not-is_step
returns-then-not-is_step c =
    let step = steps-from c.args.points.now c.loop-i.i (pos 0, pos 0) c.loop-i.auto.i c.loop-i-test.true in (
      (λ f. absurd cc),
      (λ s. subst IsTrue c.if-not-is_step.true (c.is_step.ensures.1 (step.0 (c.loop-i.invariant.0 s)).0)),
    )

pub loop-i-preserved : goal.loop-i-preserved
loop-i-preserved c =
    let points = c.args.points.now in
    let step = steps-from points c.loop-i.i (pos 0, pos 0) c.loop-i.auto.i c.loop-i-test.true in
    let back : c.loop-i.i ≡ c.loop-i.i + 1 - 1 = omega arith in
    subst (λ n. AreSteps points ↔ AreSteps (drop n points)) back (
      (λ s. (step.0 (c.loop-i.invariant.0 s)).1),
      (λ s. c.loop-i.invariant.1 (step.1 (c.is_step.ensures.0 c.if-not-is_step.false, s))),
    )

pub returns : goal.returns
returns c = ((λ t. c.loop-i.invariant.1 (last-step c.args.points.now c.loop-i.i c.loop-i-test.false)), (λ s. refl))
