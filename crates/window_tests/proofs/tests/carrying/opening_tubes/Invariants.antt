-- The tubes of the streams so far.
use Rattle.std.proofs.Common.{◌≡◌, map}
use Rattle.std.specs.List.{range_with_len}
use Rattle.renewal.specs.Plan.{window_of}
use Rattle.window_tests.proofs.tests.carrying.opening_tubes.Given as goal

abbrev pub invariant-loop-stream : goal.invariant-loop-stream
invariant-loop-stream l = l.tubes.items ≡ map (window_of l.plan).opening (range_with_len 0 l.stream)
