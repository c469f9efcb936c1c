-- Quiet tubes lie in the run, place by place.
use Rattle.flowsheet.proofs.Tubes.{quiet-inside}
use Rattle.flowsheet.proofs.laws.quiet_tubes_lie_in_the_run.Goals as goal

pub returns : goal.returns
returns c = quiet-inside
