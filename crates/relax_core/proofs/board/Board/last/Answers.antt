-- Each stream has a line.
use Rattle.relax_core.proofs.Boards.{line-there}
use Rattle.relax_core.proofs.board.Board.last.Goals as goal

pub last-requires : goal.last-requires
last-requires c = line-there _ c.self.invariant.steps _ c.self.view_is c.args.stream c.requires
