-- Each stream has a line, and its count fits.
use Rattle.std.proofs.Common.{arith}
use Rattle.relax_core.proofs.Boards.{line-there}
use Rattle.relax_core.proofs.board.Board.versions.Goals as goal

pub count-requires : goal.count-requires
count-requires c = line-there _ c.self.invariant.steps _ c.self.view_is c.args.stream c.requires

pub overflow_cast-result : goal.overflow_cast-result
overflow_cast-result c = omega (arith, c.count.ensures, c.self.invariant.few c.args.stream)
