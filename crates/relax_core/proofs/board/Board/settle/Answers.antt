-- Each sweep goes on with the settling. One that narrowed nothing ends it, or the last of as many as there are places.
use Rattle.std.proofs.Common.{ℕ, List, take, sym, subst, arith}
use Rattle.std.specs.Prelude.{Bool}
use Rattle.renewal.specs.Plan.{PlanOf}
use Rattle.relax_core.specs.Board.{BoardOf}
use Rattle.relax_core.specs.Order.{IsOrder}
use Rattle.relax_core.specs.Turns.{IsSweeping}
use Rattle.relax_core.proofs.Orders.{order-once, front-once}
use Rattle.relax_core.proofs.Rows.{goes-begin}
use Rattle.relax_core.proofs.Settled.{IsSettling, plan-same, settling_none, settling-more, settling-few, settling-quiet}
use Rattle.relax_core.proofs.Settled.{sweeping-few, sweep-quiet}
use Rattle.relax_core.proofs.Sweeping.{goes_further, sweep-goes}
use Rattle.relax_core.proofs.board.Board.settle.Goals as goal

-- the streams in the order of the flow, on the board so far
abbrev order-so-far : (start board : BoardOf) (k : ℕ) (order : List ℕ) →
    IsSettling start k board → IsOrder start.plan order → IsOrder board.plan order
order-so-far start board k order h each =
    subst (λ (plan : PlanOf). IsOrder plan order) (sym (plan-same start k board h)) each

pub loop-init : goal.loop-init
loop-init c = settling_none c.args.self.now

pub loop-preserved : goal.loop-preserved
loop-preserved c =
    let start = c.args.self.now in
    let order = take c.write_order-count.result c.write_order-count.new.order in
    settling-more start c.loop.counter c.loop.self c.loop.invariant c.sweep.new.self order c.in_ok-sweep.field-0
    (order-so-far start c.loop.self c.loop.counter order c.loop.invariant c.write_order-count.ensures.order)
    c.in_ok-sweep.ensures

pub sweep-requires : goal.sweep-requires
sweep-requires c =
    let order = take c.write_order-count.result c.write_order-count.new.order in
    order-so-far c.args.self.now c.loop.self c.loop.counter order c.loop.invariant c.write_order-count.ensures.order

pub returns-in_err-sweep-clause-longer : goal.returns-in_err-sweep-clause-longer
returns-in_err-sweep-clause-longer c =
    let began = c.in_err-sweep.ensures in
    goes_further c.args.self.now c.loop.self c.sweep.new.self c.loop.invariant.goes
    (sweep-goes c.loop.self _ _ c.sweep.new.self began.1)

pub returns-in_err-sweep-clause-few : goal.returns-in_err-sweep-clause-few
returns-in_err-sweep-clause-few c = λ s l.
    let began = c.in_err-sweep.ensures in
    let order = take c.write_order-count.result c.write_order-count.new.order in
    sweeping-few c.args.self.now c.loop.counter c.loop.self c.loop.invariant c.places-end.ensures.board
    (omega (arith, c.places-end.ensures.places, c.loop-test.true)) (take began.0 order) _ c.sweep.new.self began.1 s
    (front-once c.args.self.now.plan order c.write_order-count.ensures.order began.0 s)

pub returns-in_err-sweep-clause-rows : goal.returns-in_err-sweep-clause-rows
returns-in_err-sweep-clause-rows c = goes-begin c.args.self.now c.sweep.new.self c.places-end.ensures.board
    (returns-in_err-sweep-clause-longer c) _ (returns-in_err-sweep-clause-few c)

pub returns-then-not-branch-clause-quiet : goal.returns-then-not-branch-clause-quiet
returns-then-not-branch-clause-quiet c =
    let start = c.args.self.now in
    let board = c.loop.self in
    let order = take c.write_order-count.result c.write_order-count.new.order in
    sweep-quiet board c.sweep.new.self order
    (order-so-far start board c.loop.counter order c.loop.invariant c.write_order-count.ensures.order)
    (subst (λ (narrows : Bool). IsSweeping board order narrows c.sweep.new.self) c.if-not-branch.true
    c.in_ok-sweep.ensures)

pub returns-then-not-branch-clause-longer : goal.returns-then-not-branch-clause-longer
returns-then-not-branch-clause-longer c =
    goes_further c.args.self.now c.loop.self c.sweep.new.self c.loop.invariant.goes
    (sweep-goes c.loop.self _ c.in_ok-sweep.field-0 c.sweep.new.self c.in_ok-sweep.ensures)

pub returns-then-not-branch-clause-few : goal.returns-then-not-branch-clause-few
returns-then-not-branch-clause-few c = λ s l.
    let order = take c.write_order-count.result c.write_order-count.new.order in
    sweeping-few c.args.self.now c.loop.counter c.loop.self c.loop.invariant c.places-end.ensures.board
    (omega (arith, c.places-end.ensures.places, c.loop-test.true)) order c.in_ok-sweep.field-0 c.sweep.new.self
    c.in_ok-sweep.ensures s (order-once c.args.self.now.plan order c.write_order-count.ensures.order s)

pub returns-then-not-branch-clause-rows : goal.returns-then-not-branch-clause-rows
returns-then-not-branch-clause-rows c = goes-begin c.args.self.now c.sweep.new.self c.places-end.ensures.board
    (returns-then-not-branch-clause-longer c) _ (returns-then-not-branch-clause-few c)

pub returns-clause-quiet : goal.returns-clause-quiet
returns-clause-quiet c = settling-quiet c.args.self.now c.loop.counter c.loop.self c.loop.invariant
    c.places-end.ensures.board (omega (arith, c.places-end.ensures.places, c.loop-test.false))

pub returns-clause-longer : goal.returns-clause-longer
returns-clause-longer c = c.loop.invariant.goes

pub returns-clause-few : goal.returns-clause-few
returns-clause-few c = λ s l.
    omega (
      arith,
      c.places-end.ensures.places,
      c.loop.auto.counter-end,
      settling-few c.args.self.now c.loop.counter c.loop.self c.loop.invariant c.places-end.ensures.board s,
    )

pub returns-clause-rows : goal.returns-clause-rows
returns-clause-rows c = goes-begin c.args.self.now c.loop.self c.places-end.ensures.board (returns-clause-longer c) _
    (returns-clause-few c)
