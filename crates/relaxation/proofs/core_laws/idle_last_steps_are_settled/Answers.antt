-- The step from the last versions renews from them.
use Rattle.relaxation.proofs.LastSteps.{idle-settled, settled-idle}
use Rattle.relaxation.proofs.core_laws.idle_last_steps_are_settled.Goals as goal

pub returns : goal.returns
returns c window state s u p e = (idle-settled window state s u p e, settled-idle window state s u p e)
