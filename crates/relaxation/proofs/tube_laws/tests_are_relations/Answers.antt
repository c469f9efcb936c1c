-- A test that is passed says that one lies in the other, and is passed where it does.
use Rattle.relaxation.proofs.Meets.{all_inside-yes, all_inside-test, within-yes, within-test}
use Rattle.relaxation.proofs.tube_laws.tests_are_relations.Goals as goal

pub returns-clause-inside : goal.returns-clause-inside
returns-clause-inside c As Bs = (all_inside-yes As Bs, all_inside-test As Bs)

pub returns-clause-within : goal.returns-clause-within
returns-clause-within c A B = (within-yes A B, within-test A B)
