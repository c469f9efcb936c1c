use Rattle.stream_cell.proofs.Lasting.{lasts}
use Rattle.stream_cell.proofs.laws.histories_only_grow.Goals as goal

pub returns : goal.returns
returns c = lasts
