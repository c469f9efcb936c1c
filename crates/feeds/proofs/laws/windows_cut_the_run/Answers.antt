-- Each clause is a lemma on the run's plan, since what is given lies in the limits.
use Rattle.feeds.specs.Given.{given_by}
use Rattle.feeds.proofs.Windows.{is-plan, run-is, opening-is}
use Rattle.feeds.proofs.Limits.{given-within}
use Rattle.feeds.proofs.laws.windows_cut_the_run.Goals as goal

pub returns-clause-plan : goal.returns-clause-plan
returns-clause-plan c parts records first n plant =
    is-plan parts (given_by parts records) plant (given-within parts records plant) first n

pub returns-clause-run : goal.returns-clause-run
returns-clause-run c parts records first n s plant some few inside =
    run-is parts (given_by parts records) plant (given-within parts records plant) first n s

pub returns-clause-opening : goal.returns-clause-opening
returns-clause-opening c parts records = opening-is parts (given_by parts records)
