use Rattle.std.proofs.Common.{rules}
use Rattle.steal_desk.proofs.Taken.{steals, finds_few}
use Rattle.steal_desk.proofs.seats.Other.steal.Goals as goal

pub steal_as-requires-clause-takes : goal.steal_as-requires-clause-takes
steal_as-requires-clause-takes c = steals _ _

pub steal_as-requires-clause-empty : goal.steal_as-requires-clause-empty
steal_as-requires-clause-empty c = finds_few _ _ _ (search rules)
