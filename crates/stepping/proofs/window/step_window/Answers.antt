-- All ticks of the plan are stepped.
use Rattle.std.proofs.Common.{◌∙◌}
use Rattle.stepping.specs.Stepping.{plan_from}
use Rattle.stepping.proofs.Stepped.{whole}
use Rattle.stepping.proofs.window.step_window.Goals as goal

pub returns-clause-ok : goal.returns-clause-ok
returns-clause-ok c = whole (plan_from c.args.plant.now c.args.first c.args.ticks c.args.row.now c.args.feeds.now) c.step_ticks.new.row
    c.step_ticks.new.rows _ c.requires.plan c.in_ok-step_ticks.ensures.ok (c.new.ensures ∙ c.into_text.ensures)
