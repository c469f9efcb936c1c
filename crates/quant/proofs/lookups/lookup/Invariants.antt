use Rattle.std.proofs.Common.{◌-◌, drop}
use Rattle.quant.proofs.Tables.{IsUnderWay}
use Rattle.quant.proofs.lookups.lookup.Given as goal

-- the rate so far, and what the points that are left add
abbrev pub invariant-loop-i : goal.invariant-loop-i
invariant-loop-i l = IsUnderWay l.points (drop (l.i - 1) l.points) l.t l.rate
