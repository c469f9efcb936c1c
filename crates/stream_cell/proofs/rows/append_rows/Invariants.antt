use Rattle.std.proofs.Common.{◌≡◌, ◌≤◌, ◌++◌, take}
use Rattle.std.specs.Vec.{vec_capacity}
use Rattle.stream_cell.specs.Flat.{flat}
use Rattle.stream_cell.proofs.rows.append_rows.Given as goal

abbrev pub invariant-loop-tick : goal.invariant-loop-tick
invariant-loop-tick l = (l.bands.items ≡ l.fn.bands.items ++ flat (take l.tick l.tube)) × (vec_capacity l.fn.bands ≤ vec_capacity l.bands)
