-- What a plant file says.
use Rattle.std.specs.Prelude.{ℕ, List}
use Rattle.quant.specs.declared.limits.Limits.{Limits}
use Rattle.parts.specs.declared.feeds.FeedPart.{FeedPart}
use Rattle.parts.specs.declared.units.UnitPart.{UnitPart}
use Rattle.parts.specs.declared.parts.Widths.{Widths}

pub record FileParts : Type 0 where
  pub ticks : ℕ
  pub window : ℕ
  pub limits : Limits
  pub width : Widths
  pub feeds : List FeedPart
  pub units : List UnitPart

abbrev pub file_parts : ℕ → ℕ → Limits → Widths → List FeedPart → List UnitPart → FileParts
file_parts ticks window limits width feeds units =
    record { ticks = ticks; window = window; limits = limits; width = width; feeds = feeds; units = units }
