use Rattle.steal_desk.proofs.Taken.{cuts}
use Rattle.steal_desk.proofs.seats.StealSeat.as_other.Goals as goal

pub another-pass-requires : goal.another-pass-requires
another-pass-requires g c = cuts _ _
