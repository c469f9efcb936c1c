use Rattle.std.proofs.Common.{◌∙◌, length, ap, arith}
use Rattle.plant_units.specs.Units.{units_of}
use Rattle.renewal.proofs.Counts.{units-few}
use Rattle.relax_core.proofs.sizes.unit_count.Goals as goal

pub overflow_cast-result : goal.overflow_cast-result
overflow_cast-result c = omega (arith, units-few _ c.plant.ensures.plan, ap length (c.units.ensures ∙ ap units_of c.plant.ensures.plant))
