use Rattle.std.proofs.Common.{◌≡◌, map, flat_map}
use Rattle.std.specs.List.{range_with_len}
use Rattle.relaxation.specs.Gathered.{made_of}
use Rattle.workers.specs.Gathering.{answer_of}
use Rattle.workers.proofs.gathering.gather.Given as goal

abbrev pub invariant-loop-stream : goal.invariant-loop-stream
invariant-loop-stream l = l.gathered.items ≡ map answer_of (flat_map (made_of l.histories) (range_with_len 0 l.stream))
