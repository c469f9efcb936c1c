-- The states and the streams from a tick on, at each unit and each stream.
use Rattle.std.proofs.Common.{ap}
use Rattle.flowsheet.specs.Reading.{on_bands}
use Rattle.flowsheet.proofs.Joins.{joined_states, joined_streams}
use Rattle.flowsheet.proofs.laws.runs_join.Goals as goal

pub returns-clause-states : goal.returns-clause-states
returns-clause-states c plant carried feeds k t u = ap (λ f. f u) (joined_states (on_bands plant) plant carried feeds k t)

pub returns-clause-streams : goal.returns-clause-streams
returns-clause-streams c plant carried feeds k t s = ap (λ f. f s) (joined_streams (on_bands plant) plant carried feeds k t)
