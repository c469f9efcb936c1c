use Rattle.relaxation.proofs.Meets.{within-itself, within-through, within-both}
use Rattle.relaxation.proofs.tube_laws.tubes_lie_in_wider_ones.Goals as goal

pub returns-clause-itself : goal.returns-clause-itself
returns-clause-itself c = within-itself

pub returns-clause-through : goal.returns-clause-through
returns-clause-through c = within-through

pub returns-clause-both : goal.returns-clause-both
returns-clause-both c = within-both
