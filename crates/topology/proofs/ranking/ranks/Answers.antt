use Rattle.std.proofs.Common.{refl}
use Rattle.topology.proofs.Ascents.{no_loop}
use Rattle.topology.proofs.ranking.ranks.Goals as goal

pub returns-clause-no_loop : goal.returns-clause-no_loop
returns-clause-no_loop c = no_loop c.args.links.now c.settle.new.ranks (c.if-not-settle.ensures.settled refl)
