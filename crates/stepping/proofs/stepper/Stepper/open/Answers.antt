-- A plant's opening row carries its opening bands.
use Rattle.std.proofs.Common.{subst}
use Rattle.plant.specs.Sound.{IsPlant}
use Rattle.stepping.proofs.Answered.{opening-stands}
use Rattle.stepping.proofs.stepper.Stepper.open.Goals as goal

pub invariant_of-result : goal.invariant_of-result
invariant_of-result c = opening-stands c.args.plant c.in_ok-row.row
    (subst IsPlant c.plant.view_is c.plant.invariant.plant)
    c.in_ok-row.ensures.opening c.in_ok-row.ensures.row
