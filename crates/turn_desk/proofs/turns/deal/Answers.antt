use Rattle.std.proofs.Common.{rules}
use Rattle.turn_desk.proofs.Drawn.{cuts_at}
use Rattle.turn_desk.proofs.turns.deal.Goals as goal

pub split_seat-pass-requires : goal.split_seat-pass-requires
split_seat-pass-requires c = (search rules, search rules, cuts_at _ _ _ (search rules) (search rules))
