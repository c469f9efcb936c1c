use Rattle.topology.proofs.Found.{all-found}
use Rattle.topology.proofs.laws.ranks_are_found.Goals as goal

pub returns : goal.returns
returns c = all-found
