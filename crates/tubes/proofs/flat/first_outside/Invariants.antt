use Rattle.tubes.specs.Flat.{AreInsideBefore}
use Rattle.tubes.proofs.flat.first_outside.Given as goal

abbrev pub invariant-loop-place : goal.invariant-loop-place
invariant-loop-place l = AreInsideBefore l.place l.bands l.others
