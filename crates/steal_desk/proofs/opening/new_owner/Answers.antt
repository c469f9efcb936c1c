use Rattle.std.proofs.Common.{rules}
use Rattle.steal_desk.proofs.Taken.{begins, tells_less}
use Rattle.steal_desk.proofs.opening.new_owner.Goals as goal

pub fifo_as-requires : goal.fifo_as-requires
fifo_as-requires c = begins

pub another-requires : goal.another-requires
another-requires c = tells_less _ _ (search rules) (search rules)
