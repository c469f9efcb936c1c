-- One tick more of the plan is stepped.
use Rattle.std.proofs.Common.{◌∙◌, refl, arith}
use Rattle.stepping.specs.Stepping.{plan_from}
use Rattle.stepping.proofs.Runs.{feeds-at, row-limited, stepped-more, end-run, told}
use Rattle.stepping.proofs.Stepped.{begun}
use Rattle.stepping.proofs.ticks.step_ticks.Goals as goal

pub loop-tick-init : goal.loop-tick-init
loop-tick-init c = record {
  streams = c.requires.streams;
  stepped = begun (plan_from c.args.plant.now c.args.first c.args.ticks c.args.row.now c.args.feeds.now) c.args.row.now _
      c.requires.row refl c.requires.rows;
}

pub give_feeds-requires-clause-feeds : goal.give_feeds-requires-clause-feeds
give_feeds-requires-clause-feeds c =
    feeds-at (plan_from c.args.plant.now c.args.first c.args.ticks c.args.row.now c.args.feeds.now) c.requires.plan c.loop-tick.tick
    c.loop-tick-test.true

pub overflow_add-first : goal.overflow_add-first
overflow_add-first c = omega (arith, c.requires.plan.inside, c.requires.plan.plant.ranges.ticks.1, c.loop-tick-test.true)

pub take_row-requires-clause-limits : goal.take_row-requires-clause-limits
take_row-requires-clause-limits c =
    row-limited (plan_from c.args.plant.now c.args.first c.args.ticks c.args.row.now c.args.feeds.now) c.requires.plan c.loop-tick.tick
    c.loop-tick-test.true c.loop-tick.row c.give_feeds.new.row c.direct_step.new.row c.loop-tick.rows c.loop-tick.invariant.stepped
    c.give_feeds.ensures c.direct_step.ensures.step c.windows_keep_limits.ensures

pub returns-in_err-take_row-clause-err : goal.returns-in_err-take_row-clause-err
returns-in_err-take_row-clause-err c =
    let plan = plan_from c.args.plant.now c.args.first c.args.ticks c.args.row.now c.args.feeds.now in
    let end = c.in_err-take_row.field-0.0 in
    told plan end c.from_residual.result c.from_residual.ensures.1
    (end-run plan c.requires.plan c.loop-tick.tick c.loop-tick-test.true c.loop-tick.row c.give_feeds.new.row c.direct_step.new.row
    c.loop-tick.rows c.loop-tick.invariant.stepped c.give_feeds.ensures c.direct_step.ensures.step end c.in_err-take_row.ensures.err)

pub loop-tick-preserved : goal.loop-tick-preserved
loop-tick-preserved c = record {
  streams = c.take_row.ensures.streams ∙ c.loop-tick.invariant.streams;
  stepped = stepped-more (plan_from c.args.plant.now c.args.first c.args.ticks c.args.row.now c.args.feeds.now) c.requires.plan c.loop-tick.tick
      c.loop-tick-test.true c.loop-tick.row c.give_feeds.new.row c.direct_step.new.row c.loop-tick.rows c.loop-tick.invariant.stepped
      c.give_feeds.ensures c.direct_step.ensures.step c.take_row.new.rows c.direct_step.ensures.row c.in_ok-take_row.ensures.rows
      c.in_ok-take_row.ensures.narrow;
}
