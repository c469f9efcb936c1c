use Rattle.relax_core.proofs.Boards.{opening-is, after-is}
use Rattle.relax_core.proofs.laws.steps_keep_boards.Goals as goal

pub returns-clause-opening : goal.returns-clause-opening
returns-clause-opening c = opening-is

pub returns-clause-after : goal.returns-clause-after
returns-clause-after c board step is = after-is board is step
