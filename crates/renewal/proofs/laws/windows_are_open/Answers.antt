use Rattle.renewal.proofs.Windows.{is-open}
use Rattle.renewal.proofs.laws.windows_are_open.Goals as goal

pub returns : goal.returns
returns c = is-open
