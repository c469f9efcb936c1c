use Rattle.std.proofs.Common.{◌≡◌, ◌++◌, drop}
use Rattle.report.specs.Ranks.{ranks_from}
use Rattle.report.proofs.texts.check_rows.Given as goal

-- the rows so far and those of the units that are left are the rows of all
abbrev pub invariant-loop-u : goal.invariant-loop-u
invariant-loop-u l = l.rows ++ ranks_from l.ranks l.u (drop l.u l.units) ≡ ranks_from l.ranks 0 l.units
