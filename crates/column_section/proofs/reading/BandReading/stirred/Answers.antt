use Rattle.std.proofs.Common.{rules, refl}
use Rattle.std.proofs.lemmas.Int.{to_z-of_z}
use Rattle.std.specs.Int.{w64}
use Rattle.quant.specs.Hull.{hull5}
use Rattle.quant.specs.Rounding.{Floor}
use Rattle.quant.specs.Operation.{tray}
use Rattle.quant.specs.Term.{interval}
use Rattle.column_section.proofs.Columns.{hulled5, drains}
use Rattle.column_section.proofs.reading.BandReading.stirred.Goals as goal

pub tray_band-requires-clause-drainable : goal.tray_band-requires-clause-drainable
tray_band-requires-clause-drainable c =
    drains _ _ c.args.column.now.holdup c.args.column.now.slope c.args.liquid c.args.vapour c.args.liquid c.args.vapour
    (to_z-of_z w64 c.args.column.now.holdup (search rules)) (to_z-of_z w64 c.args.column.now.slope (search rules))
    refl refl c.requires.drainable

pub returns : goal.returns
returns c states inputs x xa yb l v own above below liquid vapour =
    let column = c.args.column.now in
    hulled5 (λ h s. hull5 (tray Floor h s)) _ _ c.args.self c.args.above c.args.below c.args.liquid c.args.vapour
    c.tray_band.result column.holdup column.slope (interval Floor states inputs x) (interval Floor states inputs xa)
    (interval Floor states inputs yb) (interval Floor states inputs l) (interval Floor states inputs v)
    c.tray_band.ensures.hull (to_z-of_z w64 column.holdup (search rules)) (to_z-of_z w64 column.slope (search rules))
    own above below liquid vapour
