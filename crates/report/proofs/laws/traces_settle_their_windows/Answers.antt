use Rattle.report.proofs.Traces.{stands}
use Rattle.report.proofs.laws.traces_settle_their_windows.Goals as goal

pub returns : goal.returns
returns c = stands
