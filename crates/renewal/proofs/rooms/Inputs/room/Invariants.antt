-- The tubes of the streams so far.
use Rattle.std.proofs.Common.{◌≡◌, map, take}
use Rattle.renewal.specs.Plan.{window_of}
use Rattle.renewal.proofs.rooms.Inputs.room.Given as goal

abbrev pub invariant-loop-stream : goal.invariant-loop-stream
invariant-loop-stream l = l.tubes.items ≡ map (window_of l.plan).opening (take l.stream-index l.stream-items)
