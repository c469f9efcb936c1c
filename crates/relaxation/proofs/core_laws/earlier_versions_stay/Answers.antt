-- The versions of each stream are the first of those after steps.
use Rattle.relaxation.proofs.Stays.{step-stays, replay-stays}
use Rattle.relaxation.proofs.core_laws.earlier_versions_stay.Goals as goal

pub returns-clause-step : goal.returns-clause-step
returns-clause-step c window state step s = (step-stays window state step s).same

pub returns-clause-steps : goal.returns-clause-steps
returns-clause-steps c window state steps s = (replay-stays window state steps s).same

pub returns-clause-step_count : goal.returns-clause-step_count
returns-clause-step_count c window state step s = (step-stays window state step s).longer

pub returns-clause-steps_count : goal.returns-clause-steps_count
returns-clause-steps_count c window state steps s = (replay-stays window state steps s).longer
