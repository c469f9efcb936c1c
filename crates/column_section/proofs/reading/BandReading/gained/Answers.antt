use Rattle.std.proofs.Common.{ℤ, rules, ap, ◌∙◌}
use Rattle.std.proofs.lemmas.Int.{to_z-of_z}
use Rattle.std.specs.Int.{w64}
use Rattle.quant.specs.Hull.{hull1}
use Rattle.quant.specs.Rounding.{Floor}
use Rattle.quant.specs.Operation.{gain}
use Rattle.column_section.proofs.reading.BandReading.gained.Goals as goal

pub returns-clause-value : goal.returns-clause-value
returns-clause-value c states inputs term e =
    c.gain_band.ensures.hull
    ∙ ap (λ (k : ℤ). hull1 (gain Floor k) c.args.self) (to_z-of_z w64 c.args.slope (search rules))
    ∙ ap (hull1 (gain Floor c.args.slope)) e
