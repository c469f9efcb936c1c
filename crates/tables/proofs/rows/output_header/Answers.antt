use Rattle.std.proofs.Common.{rules}
use Rattle.tables.specs.Output.{header}
use Rattle.tables.proofs.rows.output_header.Goals as goal

pub returns : goal.returns
unfolding header
returns c = search rules
