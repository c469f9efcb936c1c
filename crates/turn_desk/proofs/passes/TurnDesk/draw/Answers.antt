use Rattle.std.proofs.Common.{rules}
use Rattle.turn_desk.proofs.Drawn.{draws}
use Rattle.turn_desk.proofs.passes.TurnDesk.draw.Goals as goal

pub fetch_add-number-requires : goal.fetch_add-number-requires
fetch_add-number-requires c = (search rules, search rules, draws _ _ _ _ (search rules) (search rules) (search rules))
