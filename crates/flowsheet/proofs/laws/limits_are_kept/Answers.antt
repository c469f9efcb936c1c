-- The run's states and outputs stay in their limits.
use Rattle.flowsheet.proofs.Limits.{states-limited, stream-limited}
use Rattle.flowsheet.proofs.laws.limits_are_kept.Goals as goal

pub returns-clause-states : goal.returns-clause-states
returns-clause-states c = states-limited

pub returns-clause-streams : goal.returns-clause-streams
returns-clause-streams c = stream-limited
