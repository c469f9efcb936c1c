use Rattle.std.proofs.Common.{◌-◌, length}
use Rattle.lines.specs.Pieces.{PassesEmpty}
use Rattle.lines.proofs.cutting.line_at.Given as goal

abbrev pub invariant-loop-start : goal.invariant-loop-start
invariant-loop-start l = PassesEmpty l.bytes l.from l.start

abbrev pub decreases-loop-start : goal.decreases-loop-start
decreases-loop-start l = length l.bytes - l.start
