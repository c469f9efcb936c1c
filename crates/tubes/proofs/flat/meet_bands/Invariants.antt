use Rattle.std.proofs.Common.{◌≡◌, ◌++◌, take, drop}
use Rattle.relaxation.specs.Tube.{meet_bands}
use Rattle.tubes.proofs.flat.meet_bands.Given as goal

abbrev pub invariant-loop-place : goal.invariant-loop-place
invariant-loop-place l = l.bands ≡ take l.place (meet_bands l.fn.bands l.others) ++ drop l.place l.fn.bands
