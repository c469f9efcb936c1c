use Rattle.topology.proofs.Found.{ranks-or-first_loop}
use Rattle.topology.proofs.laws.ranks_or_first_loop.Goals as goal

pub returns : goal.returns
returns c = ranks-or-first_loop
