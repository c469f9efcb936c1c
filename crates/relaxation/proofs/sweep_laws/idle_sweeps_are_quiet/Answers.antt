use Rattle.relaxation.proofs.IdleSweeps.{idle-quiet}
use Rattle.relaxation.proofs.sweep_laws.idle_sweeps_are_quiet.Goals as goal

pub returns : goal.returns
returns c = idle-quiet
