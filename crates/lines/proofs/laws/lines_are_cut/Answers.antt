use Rattle.lines.proofs.LineLaws.{lines_cut, ended_cut, last_line, plain_line, returned_line}
use Rattle.lines.proofs.laws.lines_are_cut.Goals as goal

pub returns-clause-first : goal.returns-clause-first
returns-clause-first c = lines_cut

pub returns-clause-first_ended : goal.returns-clause-first_ended
returns-clause-first_ended c = ended_cut

pub returns-clause-last : goal.returns-clause-last
returns-clause-last c = last_line

pub returns-clause-plain : goal.returns-clause-plain
returns-clause-plain c = plain_line

pub returns-clause-returned : goal.returns-clause-returned
returns-clause-returned c = returned_line
