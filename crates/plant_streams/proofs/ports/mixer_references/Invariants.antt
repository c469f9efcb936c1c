use Rattle.std.proofs.Common.{◌≡◌, ◌++◌, map, drop}
use Rattle.plant_streams.specs.Streams.{mixer_references}
use Rattle.plant_streams.specs.Seen.{reference_seen}
use Rattle.plant_streams.proofs.ports.mixer_references.Given as goal

-- the references so far, and those of the inputs that are left
abbrev pub invariant-loop-index : goal.invariant-loop-index
invariant-loop-index l = map reference_seen l.references.items ++ mixer_references l.index (drop l.index l.inputs)
    ≡ mixer_references 0 l.inputs
