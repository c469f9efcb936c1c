use Rattle.std.proofs.Common.{rules}
use Rattle.steal_desk.proofs.Taken.{pops, finds}
use Rattle.steal_desk.proofs.takes.pop.Goals as goal

pub pop_as-requires-clause-fifo : goal.pop_as-requires-clause-fifo
pop_as-requires-clause-fifo c = λ _. pops _ _ (search rules)

pub pop_as-requires-clause-empty : goal.pop_as-requires-clause-empty
pop_as-requires-clause-empty c = finds _ _
