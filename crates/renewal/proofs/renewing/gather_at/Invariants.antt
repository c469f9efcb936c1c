use Rattle.std.proofs.Common.{◌<◌, length}
use Rattle.relaxation.specs.Tube.{at}
use Rattle.plant_units.proofs.Spreads.{IsGathering}
use Rattle.renewal.proofs.renewing.gather_at.Given as goal

abbrev pub invariant-loop-tube : goal.invariant-loop-tube
invariant-loop-tube l =
    IsGathering (λ tube. l.tick < length tube) (λ tube. at tube l.tick) l.tubes l.tube-index l.place l.ins
