use Rattle.std.proofs.Common.{ap, ◌∙◌}
use Rattle.quant.specs.Hull.{hull1}
use Rattle.quant.specs.Operation.{clamp}
use Rattle.column_section.proofs.reading.BandReading.clamped.Goals as goal

pub returns : goal.returns
returns c states inputs term e = c.clamp_band.ensures.hull ∙ ap (hull1 (clamp c.args.limits)) e
