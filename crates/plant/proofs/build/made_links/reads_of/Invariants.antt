use Rattle.std.proofs.Common.{◌≡◌, map, take}
use Rattle.plant_units.specs.Units.{reads_of}
use Rattle.plant.specs.Seen.{givers_seen}
use Rattle.plant.proofs.build.made_links.reads_of.Given as goal

-- the lists so far
abbrev pub invariant-loop-unit : goal.invariant-loop-unit
invariant-loop-unit l =
    map (λ r. r.items) l.reads.items ≡ map (λ x. givers_seen l.streams (reads_of x)) (take l.unit-index l.units)
