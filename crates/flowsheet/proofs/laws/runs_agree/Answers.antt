-- Equality is kept along the run, so runs from equal bands are equal.
use Rattle.flowsheet.specs.Reading.{on_bands}
use Rattle.flowsheet.proofs.Readings.{same-kept}
use Rattle.flowsheet.proofs.Runs.{streams-related, states-related}
use Rattle.flowsheet.proofs.laws.runs_agree.Goals as goal

pub returns-clause-streams : goal.returns-clause-streams
returns-clause-streams c plant carried others feeds fed n ranked opening given =
    streams-related plant n carried feeds others fed (same-kept (on_bands plant)) ranked
    (record { states = opening; fed = given })

pub returns-clause-states : goal.returns-clause-states
returns-clause-states c plant carried others feeds fed n ranked opening given =
    states-related plant n carried feeds others fed (same-kept (on_bands plant)) ranked
    (record { states = opening; fed = given })
