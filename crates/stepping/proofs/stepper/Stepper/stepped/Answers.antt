-- The next window is a plan.
use Rattle.std.proofs.Common.{sym, subst, ap}
use Rattle.plant.specs.Rows.{RowBands}
use Rattle.renewal.specs.Plan.{IsPlan}
use Rattle.window_accept.specs.Session.{IsSession}
use Rattle.stepping.proofs.Answered.{plan-same, next-planned}
use Rattle.stepping.proofs.stepper.Stepper.stepped.Goals as goal

pub step_window-requires-clause-plan : goal.step_window-requires-clause-plan
step_window-requires-clause-plan c =
    let now = c.args.self.now in
    subst IsPlan (sym (plan-same _ now c.in_ok-row.row c.next_ticks.result c.args.feeds.now c.self.view_is
    c.next_ticks.ensures (ap (λ (row : RowBands). row.states) c.in_ok-row.ensures)))
    (next-planned now c.args.feeds.now c.given_feeds_can_be_planned.ensures.plan
    (subst IsSession c.self.view_is c.self.invariant.session_is) c.requires.left c.requires.feeds)
