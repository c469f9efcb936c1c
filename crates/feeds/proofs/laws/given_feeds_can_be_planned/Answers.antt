-- Tubes in the limits are planned as they are, and what is given lies in the limits.
use Rattle.feeds.specs.Given.{given_by}
use Rattle.feeds.proofs.Windows.{planned, fed-within}
use Rattle.feeds.proofs.Limits.{given-within}
use Rattle.feeds.proofs.laws.given_feeds_can_be_planned.Goals as goal

pub returns-clause-plan : goal.returns-clause-plan
returns-clause-plan c = planned

pub returns-clause-tubes : goal.returns-clause-tubes
returns-clause-tubes c parts records first n plant =
    fed-within parts (given_by parts records) first n (given-within parts records plant)
