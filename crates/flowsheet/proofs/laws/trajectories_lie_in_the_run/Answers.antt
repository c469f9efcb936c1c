-- The run's streams and states hold each trajectory's.
use Rattle.flowsheet.proofs.Trajectories.{streams-hold, states-hold}
use Rattle.flowsheet.proofs.laws.trajectories_lie_in_the_run.Goals as goal

pub returns-clause-streams : goal.returns-clause-streams
returns-clause-streams c = streams-hold

pub returns-clause-states : goal.returns-clause-states
returns-clause-states c = states-hold
