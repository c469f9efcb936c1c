use Rattle.relax_core.proofs.Lefts.{leaves-run, leaves-window}
use Rattle.relax_core.proofs.laws.quiet_boards_are_settled.Goals as goal

pub returns-clause-tubes : goal.returns-clause-tubes
returns-clause-tubes c = leaves-run

pub returns-clause-window : goal.returns-clause-window
returns-clause-window c = leaves-window
