use Rattle.std.proofs.Common.{◌≡◌, map, take}
use Rattle.std.specs.Prelude.{unwrap_or}
use Rattle.plant_streams.specs.Streams.{number_of}
use Rattle.plant_streams.specs.Seen.{reference_seen}
use Rattle.plant_units.proofs.made_units.inputs_of.Given as goal

-- the numbers so far
abbrev pub invariant-loop-reference : goal.invariant-loop-reference
invariant-loop-reference l =
    l.inputs.items ≡ map (λ reference. unwrap_or (number_of l.streams reference.name) 0)
    (map reference_seen (take l.reference-index l.reference-items))
