-- The run's streams and states have numbers in them.
use Rattle.flowsheet.proofs.Runs.{streams-bands, states-bands}
use Rattle.flowsheet.proofs.laws.the_run_has_bands.Goals as goal

pub returns-clause-streams : goal.returns-clause-streams
returns-clause-streams c = streams-bands

pub returns-clause-states : goal.returns-clause-states
returns-clause-states c = states-bands
