use Rattle.std.proofs.Common.{take}
use Rattle.topology.proofs.Searches.{Looked}
use Rattle.topology.proofs.reach.reach.Given as goal

-- the units so far were looked at
abbrev pub invariant-loop-next : goal.invariant-loop-next
invariant-loop-next l = Looked l.links (take l.next-index l.next-items) l.fn.reached l.reached l.fn.waiting.items
    l.waiting.items
