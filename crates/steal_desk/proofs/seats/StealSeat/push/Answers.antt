use Rattle.std.proofs.Common.{rules}
use Rattle.steal_desk.proofs.Taken.{pushes}
use Rattle.steal_desk.proofs.seats.StealSeat.push.Goals as goal

pub push_as-requires-clause-pushes : goal.push_as-requires-clause-pushes
push_as-requires-clause-pushes c = pushes _ _ _ (search rules) (search rules)
