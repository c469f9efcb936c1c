use Rattle.std.proofs.Common.{refl}
use Rattle.quant.specs.Rounding.{quotient}
use Rattle.quant.specs.Operation.{share, keep, blend, clamp}
use Rattle.parts.specs.Given.{band_at, kind_bands}
use Rattle.plant_streams.specs.Streams.{ports_of, streams_of, references_of}
use Rattle.plant_streams.specs.Limits.{limits_in}
use Rattle.plant_checks.specs.Openings.{openings_of}
use Rattle.plant_units.specs.Units.{made_unit, unit_from, units_of, sheet_unit}
use Rattle.plant.specs.PlantOf.{links_of, plant_of}
use Rattle.flow_top.proofs.laws.worked_bands.Goals as goal

pub returns-clause-opening : goal.returns-clause-opening
unfolding quotient share keep blend clamp band_at kind_bands ports_of streams_of references_of limits_in openings_of made_unit unit_from units_of sheet_unit links_of plant_of
returns-clause-opening c = refl

pub returns-clause-next : goal.returns-clause-next
unfolding quotient share keep blend clamp band_at kind_bands ports_of streams_of references_of limits_in openings_of made_unit unit_from units_of sheet_unit links_of plant_of
returns-clause-next c = refl

pub returns-clause-last : goal.returns-clause-last
unfolding quotient share keep blend clamp band_at kind_bands ports_of streams_of references_of limits_in openings_of made_unit unit_from units_of sheet_unit links_of plant_of
returns-clause-last c = refl

pub returns-clause-outflow : goal.returns-clause-outflow
unfolding quotient share keep blend clamp band_at kind_bands ports_of streams_of references_of limits_in openings_of made_unit unit_from units_of sheet_unit links_of plant_of
returns-clause-outflow c = refl
