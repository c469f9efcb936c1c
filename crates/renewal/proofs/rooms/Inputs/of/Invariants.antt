-- The tubes of what it reads so far.
use Rattle.std.proofs.Common.{◌≡◌, [], map, take}
use Rattle.std.specs.Prelude.{slice_index_or}
use Rattle.renewal.proofs.rooms.Inputs.of.Given as goal

abbrev pub invariant-loop-stream : goal.invariant-loop-stream
invariant-loop-stream l = l.made.items ≡ map (λ s. slice_index_or l.tubes s []) (take l.stream-index l.stream-items)
