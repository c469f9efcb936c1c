-- Words of the proofs: a reader of the contracts needs none of them.
-- An order of the streams of a plan.
use Rattle.std.specs.Prelude.{ℕ, List, length}
use Rattle.std.specs.List.{range_with_len}
use Rattle.std.specs.List.Sorted.{IsPermutation}
use Rattle.plant_streams.specs.Streams.{streams_of}
use Rattle.renewal.specs.Plan.{PlanOf}

-- each stream stands in it once
abbrev pub IsOrder : PlanOf → List ℕ → Type 0
IsOrder plan order = IsPermutation (range_with_len 0 (length (streams_of plan.parts))) order
