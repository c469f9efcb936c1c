use Rattle.std.proofs.Common.{rules, ◌∙◌}
use Rattle.std.proofs.lemmas.Int.{to_z-of_z}
use Rattle.std.specs.Int.{w64}
use Rattle.quant.specs.Rounding.{Floor}
use Rattle.quant.specs.Operation.{gain}
use Rattle.quant.specs.Term.{value}
use Rattle.quant.proofs.Calls.{given2}
use Rattle.column_section.proofs.reading.I64Reading.gained.Goals as goal

pub returns-clause-value : goal.returns-clause-value
returns-clause-value c states inputs term e =
    given2 (gain Floor) _ _ _ c.args.slope (value Floor states inputs term) (search rules) c.gain.ensures.value
    (to_z-of_z w64 c.args.slope (search rules)) (to_z-of_z w64 c.args.self (search rules) ∙ e)
