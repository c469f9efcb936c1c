use Rattle.std.proofs.Common.{◌≡◌, flat_map}
use Rattle.std.specs.List.{range_with_len}
use Rattle.plant_gen.specs.Generated.{stage_of}
use Rattle.plant_gen.proofs.units.units.Given as goal

-- the units of the stages so far
abbrev pub invariant-loop-stage : goal.invariant-loop-stage
invariant-loop-stage l = l.units.items ≡ flat_map stage_of (range_with_len 0 l.stage)
