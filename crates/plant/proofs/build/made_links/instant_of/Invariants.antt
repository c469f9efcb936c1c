use Rattle.std.proofs.Common.{◌≡◌, map, take}
use Rattle.plant_units.specs.Units.{is_instant}
use Rattle.plant.proofs.build.made_links.instant_of.Given as goal

-- the answers so far
abbrev pub invariant-loop-unit : goal.invariant-loop-unit
invariant-loop-unit l = l.instant.items ≡ map is_instant (take l.unit-index l.units)
