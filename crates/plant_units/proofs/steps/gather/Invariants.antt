use Rattle.std.proofs.Common.{◌<◌, length}
use Rattle.plant_units.specs.Steps.{bands_at}
use Rattle.plant_units.proofs.Spreads.{IsGathering}
use Rattle.plant_units.proofs.steps.gather.Given as goal

abbrev pub invariant-loop-number : goal.invariant-loop-number
invariant-loop-number l =
    IsGathering (λ s. s < length l.streams) (bands_at l.streams) l.numbers l.number-index l.place l.ins
