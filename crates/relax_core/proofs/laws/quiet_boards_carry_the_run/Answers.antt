-- The last versions are the run, whose states its tubes carry on.
use Rattle.std.proofs.Common.{◌∙◌, ap}
use Rattle.renewal.specs.Carrying.{carried_from}
use Rattle.renewal.proofs.Carrying.{run-carries}
use Rattle.relax_core.proofs.Lefts.{leaves-run}
use Rattle.relax_core.proofs.laws.quiet_boards_carry_the_run.Goals as goal

pub returns : goal.returns
returns c board is quiet = ap (carried_from board.plan) (leaves-run board is quiet) ∙ run-carries board.plan is.plan
