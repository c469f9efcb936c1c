-- The units so far.
use Rattle.std.proofs.Common.{◌≡◌, take}
use Rattle.renewal.proofs.carried.Carried.copied.Given as goal

abbrev pub invariant-loop-bands : goal.invariant-loop-bands
invariant-loop-bands l = l.units.items ≡ take l.bands-index l.bands-items
