-- The window has the plan's run, which lies in the limits.
use Rattle.window_accept.proofs.Judging.{limits-in, finds-in-run}
use Rattle.window_accept.proofs.settling.first_wide_of.Goals as goal

pub first_wide-requires-clause-limits : goal.first_wide-requires-clause-limits
first_wide-requires-clause-limits c = limits-in c.args.plan.now c.args.window.now c.requires
    (λ t s. c.windows_keep_limits.ensures c.args.plan.now t s c.plant.ensures.plan) c.plant.result.now c.plant.ensures.plant

pub returns : goal.returns
returns c = finds-in-run c.args.plan.now c.args.window.now c.first_wide.result c.plant.result.now c.plant.ensures.plant c.requires
    c.first_wide.ensures
