use Rattle.std.proofs.Common.{◌∙◌, ap}
use Rattle.plant_units.specs.Units.{units_of}
use Rattle.renewal.proofs.Givers.{is-giver}
use Rattle.renewal.proofs.plan.WindowPlan.unit.Goals as goal

pub returns : goal.returns
returns c = is-giver c.args.self.now c.args.unit _ _ c.plant.ensures.plan c.requires c.index-units-unit.is
    (c.units.ensures ∙ ap units_of c.plant.ensures.plant)
