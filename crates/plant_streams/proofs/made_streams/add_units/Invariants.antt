use Rattle.std.proofs.Common.{◌≡◌, ◌++◌, drop}
use Rattle.plant_streams.specs.Streams.{unit_streams}
use Rattle.plant_streams.proofs.made_streams.add_units.Given as goal

-- the streams so far, and those of the units that are left
abbrev pub invariant-loop-unit : goal.invariant-loop-unit
invariant-loop-unit l =
    l.streams.items ++ unit_streams l.unit (drop l.unit l.units) ≡ l.fn.streams.items ++ unit_streams 0 l.units
