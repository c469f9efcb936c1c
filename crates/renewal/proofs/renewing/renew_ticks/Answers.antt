-- The ticks that are left are renewed one after another.
use Rattle.std.proofs.Common.{◌≡◌, ℕ, length, ap, subst, arith}
use Rattle.renewal.specs.Ticks.{IsRenewed}
use Rattle.renewal.proofs.Givers.{some-giver}
use Rattle.renewal.proofs.Renewed.{carried-is, carried-few, carried-counted, renewed-whole}
use Rattle.renewal.proofs.renewing.renew_ticks.Goals as goal

pub whole_as_front-new : goal.whole_as_front-new
whole_as_front-new c =
    let plan = c.args.plan.now in
    let f = some-giver plan c.args.unit c.carried.ensures.plan c.requires.unit in
    let is = carried-is plan c.args.unit _ _ c.carried.ensures.carried c.unit-states.ensures in
    (omega (arith, ap length is, carried-few plan c.args.unit f.0 f.1 c.args.inputs.now), omega arith)

pub loop-tick-init : goal.loop-tick-init
loop-tick-init c = c.requires.renewed

pub renew_tick-requires-clause-room : goal.renew_tick-requires-clause-room
renew_tick-requires-clause-room c =
    let plan = c.args.plan.now in
    let f = some-giver plan c.args.unit c.carried.ensures.plan c.requires.unit in
    let is = carried-is plan c.args.unit _ _ c.carried.ensures.carried c.unit-states.ensures in
    let few = carried-few plan c.args.unit f.0 f.1 c.args.inputs.now in
    omega (arith, ap length is, few, c.loop-tick.auto.new, carried-counted plan c.args.unit f.0 f.1 c.args.inputs.now)

-- all ticks are renewed
whole : (c : goal.After-room-in-loop-tick-1) →
    IsRenewed c.args.plan.now c.args.unit c.args.inputs.now c.args.plan.now.ticks c.loop-tick.outputs
whole c =
    let plan = c.args.plan.now in
    let all : c.loop-tick.tick ≡ plan.ticks = omega (arith, c.ticks-tick-end.ensures) in
    subst (λ (n : ℕ). IsRenewed plan c.args.unit c.args.inputs.now n c.loop-tick.outputs) all c.loop-tick.invariant

pub returns-clause-renewal : goal.returns-clause-renewal
returns-clause-renewal c =
    let plan = c.args.plan.now in
    let f = some-giver plan c.args.unit c.carried.ensures.plan c.requires.unit in
    renewed-whole plan c.args.unit f.0 f.1 c.args.inputs.now c.loop-tick.outputs (whole c)

pub returns-clause-room : goal.returns-clause-room
returns-clause-room c = (whole c).shape
