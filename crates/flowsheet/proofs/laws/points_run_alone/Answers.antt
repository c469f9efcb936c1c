-- The run on numbers is a trajectory, and the run over single numbers is each trajectory.
use Rattle.flowsheet.proofs.Bands.{points-hold}
use Rattle.flowsheet.proofs.Trajectories.{run-trajectory, streams-points, states-points}
use Rattle.flowsheet.proofs.laws.points_run_alone.Goals as goal

pub returns-clause-exists : goal.returns-clause-exists
returns-clause-exists c plant carried feeds n ranked = run-trajectory plant _ _ n carried feeds ranked
    (λ u l. points-hold (carried u)) (λ t s f m l e. points-hold (feeds t f))

pub returns-clause-values : goal.returns-clause-values
returns-clause-values c = streams-points

pub returns-clause-states : goal.returns-clause-states
returns-clause-states c = states-points
