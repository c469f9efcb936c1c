use Rattle.std.proofs.Common.{◌≡◌, drop}
use Rattle.plant_checks.specs.Checks.{each}
use Rattle.plant_checks.proofs.each.each.Given as goal

-- what is left to check decides
abbrev pub invariant-loop-index : goal.invariant-loop-index
invariant-loop-index g l =
    each (g.C.Check.check l.check) l.index (drop l.index l.items) ≡ each (g.C.Check.check l.fn.check) 0 l.items
