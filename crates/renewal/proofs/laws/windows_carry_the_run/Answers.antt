-- The run's tubes renew each unit to the run's states.
use Rattle.renewal.proofs.Carrying.{run-carries, states-carried}
use Rattle.renewal.proofs.laws.windows_carry_the_run.Goals as goal

pub returns-clause-carried : goal.returns-clause-carried
returns-clause-carried c = run-carries

pub returns-clause-within : goal.returns-clause-within
returns-clause-within c = states-carried
