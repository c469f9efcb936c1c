use Rattle.topology.specs.Reaching.{work}
use Rattle.topology.proofs.Searches.{IsSearch}
use Rattle.topology.proofs.reach.reaches_itself.Given as goal

abbrev pub invariant-loop-next : goal.invariant-loop-next
invariant-loop-next l = IsSearch l.links l.unit l.reached.items l.waiting.items

abbrev pub decreases-loop-next : goal.decreases-loop-next
decreases-loop-next l = work l.reached.items l.waiting.items
