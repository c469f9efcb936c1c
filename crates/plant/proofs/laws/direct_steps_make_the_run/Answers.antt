-- The laws of plants say it.
use Rattle.plant.proofs.PlantLaws.{opening-states, step-streams, step-states}
use Rattle.plant.proofs.laws.direct_steps_make_the_run.Goals as goal

pub returns-clause-opening : goal.returns-clause-opening
returns-clause-opening c = opening-states

pub returns-clause-streams : goal.returns-clause-streams
returns-clause-streams c = step-streams

pub returns-clause-states : goal.returns-clause-states
returns-clause-states c = step-states
