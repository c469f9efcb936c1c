use Rattle.topology.proofs.Ascents.{unique, no_loop}
use Rattle.topology.proofs.laws.ranks_are_unique.Goals as goal

pub returns-clause-unique : goal.returns-clause-unique
returns-clause-unique c = unique

pub returns-clause-no_loop : goal.returns-clause-no_loop
returns-clause-no_loop c = no_loop
