-- The two steps cover the tank's streams, one alone does not.
use Rattle.relaxation.proofs.WorkedSweep.{steps-sweep, outflow-sweep}
use Rattle.relaxation.proofs.worked_laws.worked_sweep.Goals as goal

pub returns-clause-sweep : goal.returns-clause-sweep
returns-clause-sweep c = steps-sweep

pub returns-clause-not_sweep : goal.returns-clause-not_sweep
returns-clause-not_sweep c = outflow-sweep
