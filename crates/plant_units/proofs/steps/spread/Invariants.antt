use Rattle.plant_units.specs.Steps.{spread}
use Rattle.plant_units.proofs.Spreads.{IsSpreading}
use Rattle.plant_units.proofs.steps.spread.Given as goal

abbrev pub invariant-loop-number : goal.invariant-loop-number
invariant-loop-number l = IsSpreading l.numbers (spread l.numbers l.outs l.fn.streams) l.number-index l.rest l.streams
