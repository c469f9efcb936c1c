use Rattle.std.proofs.Common.{◌≡◌, ◌++◌, map, take}
use Rattle.plant_checks.specs.Seen.{name_seen}
use Rattle.plant_checks.proofs.names.add_units.Given as goal

-- the names so far
abbrev pub invariant-loop-unit : goal.invariant-loop-unit
invariant-loop-unit l = map name_seen l.names.items ≡ map name_seen l.fn.names.items
    ++ map (λ unit. unit.name) (take l.unit-index l.units)
