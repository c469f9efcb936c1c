use Rattle.std.proofs.Common.{rules, ◌∙◌}
use Rattle.std.proofs.lemmas.Int.{to_z-of_z}
use Rattle.std.specs.Int.{w64}
use Rattle.quant.specs.Rounding.{Floor}
use Rattle.quant.specs.Operation.{tray}
use Rattle.quant.specs.Term.{value}
use Rattle.quant.proofs.Calls.{given7}
use Rattle.column_section.proofs.reading.I64Reading.stirred.Goals as goal

pub returns : goal.returns
returns c states inputs x xa yb l v own above below liquid vapour =
    let column = c.args.column.now in
    given7 (tray Floor) _ _ _ _ _ _ _ c.tray.result column.holdup column.slope (value Floor states inputs x)
    (value Floor states inputs xa) (value Floor states inputs yb) (value Floor states inputs l) (value Floor states inputs v)
    (search rules) c.tray.ensures.value
    (to_z-of_z w64 column.holdup (search rules)) (to_z-of_z w64 column.slope (search rules))
    (to_z-of_z w64 c.args.self (search rules) ∙ own) (to_z-of_z w64 c.args.above (search rules) ∙ above)
    (to_z-of_z w64 c.args.below (search rules) ∙ below) (to_z-of_z w64 c.args.liquid (search rules) ∙ liquid)
    (to_z-of_z w64 c.args.vapour (search rules) ∙ vapour)
