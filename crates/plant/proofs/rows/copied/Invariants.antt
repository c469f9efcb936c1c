-- The bands of the places so far.
use Rattle.std.proofs.Common.{◌≡◌, take}
use Rattle.plant.proofs.rows.copied.Given as goal

abbrev pub invariant-loop-bands : goal.invariant-loop-bands
invariant-loop-bands l = l.made.items ≡ take l.bands-index l.rows
