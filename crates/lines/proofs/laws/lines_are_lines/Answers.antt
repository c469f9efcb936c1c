use Rattle.lines.proofs.LineLaws.{lines_apart}
use Rattle.lines.proofs.laws.lines_are_lines.Goals as goal

pub returns : goal.returns
returns c = lines_apart
