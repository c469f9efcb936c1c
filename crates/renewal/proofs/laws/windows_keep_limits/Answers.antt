-- The opening tubes hold the run and lie in the limits.
use Rattle.renewal.proofs.Carrying.{run-limited}
use Rattle.renewal.proofs.laws.windows_keep_limits.Goals as goal

pub returns : goal.returns
returns c plan t s h = run-limited plan h t s
