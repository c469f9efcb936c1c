use Rattle.report.proofs.Firsts.{first-row}
use Rattle.report.proofs.laws.first_rows_read_opening_tubes.Goals as goal

pub returns : goal.returns
returns c = first-row
