use Rattle.std.proofs.Common.{subst}
use Rattle.relax_core.specs.Board.{IsBoard}
use Rattle.relax_core.proofs.board.Board.rows.Goals as goal

pub returns-clause-board : goal.returns-clause-board
returns-clause-board c = subst IsBoard c.self.view_is c.self.invariant.steps
