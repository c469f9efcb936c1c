use Rattle.std.proofs.Common.{◌↔◌, ◌-◌, drop}
use Rattle.quant.specs.Table.{AreSteps}
use Rattle.quant.proofs.rate_table.are_steps.Given as goal

-- the points are steps where those that are left are
abbrev pub invariant-loop-i : goal.invariant-loop-i
invariant-loop-i l = AreSteps l.points ↔ AreSteps (drop (l.i - 1) l.points)
