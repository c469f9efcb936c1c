-- The limits of the streams so far.
use Rattle.std.proofs.Common.{◌≡◌, map, take}
use Rattle.plant_streams.specs.Limits.{stream_limits}
use Rattle.plant.proofs.plant.Plant.all_limits.Given as goal

abbrev pub invariant-loop-stream : goal.invariant-loop-stream
invariant-loop-stream l = l.made.items ≡ map (stream_limits l.self) (take l.stream-index l.stream-items)
