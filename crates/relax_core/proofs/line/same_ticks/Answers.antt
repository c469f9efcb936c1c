use Rattle.relax_core.proofs.Readings.{same-before}
use Rattle.relax_core.proofs.line.same_ticks.Goals as goal

pub returns-in-Some : goal.returns-in-Some
returns-in-Some c = same-before c.args.tube.now c.args.other.now _ _ c.requires c.in-Some.ensures.place
