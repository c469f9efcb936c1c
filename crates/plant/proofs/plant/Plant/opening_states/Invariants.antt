-- The opening bands of the units so far.
use Rattle.std.proofs.Common.{◌≡◌, map, take}
use Rattle.plant_units.specs.Units.{opening_of}
use Rattle.plant.proofs.plant.Plant.opening_states.Given as goal

abbrev pub invariant-loop-unit : goal.invariant-loop-unit
invariant-loop-unit l = l.made.items ≡ map opening_of (take l.unit-index l.unit-items)
