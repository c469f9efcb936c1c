use Rattle.std.proofs.Common.{◌∙◌, length, ap, arith}
use Rattle.plant_units.specs.Units.{units_of}
use Rattle.plant.proofs.Sources.{length-units_of}
use Rattle.renewal.proofs.Counts.{units-few}
use Rattle.workers.proofs.relaxing.unit_count.Goals as goal

pub overflow_cast-result : goal.overflow_cast-result
overflow_cast-result c =
    let few = units-few _ c.plant.ensures.plan in
    omega (arith, few, ap length (c.units.ensures ∙ ap units_of c.plant.ensures.plant))

pub returns-clause-some : goal.returns-clause-some
returns-clause-some c =
    let is = c.plant.ensures.plan in
    omega (arith, (is.plant.ranges.units).0, length-units_of c.args.plan.now.parts, ap length (c.units.ensures ∙ ap units_of c.plant.ensures.plant))

pub returns-clause-few : goal.returns-clause-few
returns-clause-few c =
    let few = units-few _ c.plant.ensures.plan in
    omega (arith, few, ap length (c.units.ensures ∙ ap units_of c.plant.ensures.plant))
