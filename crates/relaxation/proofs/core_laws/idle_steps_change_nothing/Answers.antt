-- By recursion along the list: an idle step leaves the state as it is.
use Rattle.relaxation.proofs.Sequences.{narrowing-replay, narrowing-legal, narrowing-narrowing}
use Rattle.relaxation.proofs.core_laws.idle_steps_change_nothing.Goals as goal

pub returns-clause-replay : goal.returns-clause-replay
returns-clause-replay c = narrowing-replay

pub returns-clause-legal : goal.returns-clause-legal
returns-clause-legal c = narrowing-legal

pub returns-clause-narrowing : goal.returns-clause-narrowing
returns-clause-narrowing c = narrowing-narrowing
