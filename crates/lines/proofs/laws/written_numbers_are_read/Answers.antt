use Rattle.lines.proofs.Digits.{count_read, number_read}
use Rattle.lines.proofs.laws.written_numbers_are_read.Goals as goal

pub returns-clause-count : goal.returns-clause-count
returns-clause-count c = count_read

pub returns-clause-number : goal.returns-clause-number
returns-clause-number c = number_read
