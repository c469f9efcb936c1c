use Rattle.std.proofs.Common.{rules, ◌∙◌}
use Rattle.std.proofs.lemmas.Int.{to_z-of_z}
use Rattle.std.specs.Int.{w64}
use Rattle.quant.specs.Rounding.{Floor}
use Rattle.quant.specs.Operation.{clamp}
use Rattle.quant.specs.Term.{value}
use Rattle.quant.proofs.Calls.{given1}
use Rattle.column_section.proofs.reading.I64Reading.clamped.Goals as goal

pub returns : goal.returns
returns c states inputs term e =
    given1 (clamp c.args.limits) _ _ (value Floor states inputs term) (search rules) c.clamp.ensures.value
    (to_z-of_z w64 c.args.self (search rules) ∙ e)
