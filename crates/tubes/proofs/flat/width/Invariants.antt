use Rattle.std.proofs.Common.{◌≡◌, ◌≤◌, ◌*◌, ◌^◌, take}
use Rattle.std.specs.List.{sum_by}
use Rattle.tubes.specs.Flat.{reach}
use Rattle.tubes.proofs.flat.width.Given as goal

abbrev pub invariant-loop-band : goal.invariant-loop-band
invariant-loop-band l = (l.sum ≡ sum_by reach (take l.band-index l.bands)) × (l.sum ≤ l.band-index * 2 ^ 64)
