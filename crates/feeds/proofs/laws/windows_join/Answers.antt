-- The run from the states at the first tick goes on with its states.
use Rattle.feeds.specs.Given.{given_by}
use Rattle.feeds.proofs.Windows.{joined}
use Rattle.feeds.proofs.Limits.{given-within}
use Rattle.feeds.proofs.laws.windows_join.Goals as goal

pub returns : goal.returns
returns c parts records first n m plant some few inside =
    joined parts (given_by parts records) plant (given-within parts records plant) first n m
