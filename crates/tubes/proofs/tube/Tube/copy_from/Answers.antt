use Rattle.std.proofs.Common.{sym, ap, ◌∙◌, length}
use Rattle.tubes.specs.Cut.{cut}
use Rattle.tubes.proofs.Shapes.{as_long, as_other}
use Rattle.tubes.proofs.tube.Tube.copy_from.Goals as goal

pub copy_from_slice-requires : goal.copy_from_slice-requires
copy_from_slice-requires c =
    c.self.inside.bands.ok.0
    ∙ (as_long _ _ _ _ _ _ _ _ c.self.view_is c.other.view_is c.self.invariant c.other.invariant
    c.requires.shape
    ∙ ap length (sym c.as_slice.ensures.value))

pub returns : goal.returns
returns c =
    ap (cut c.self.inside.ticks c.self.inside.channels) (c.copy_from_slice.ensures.items ∙ c.as_slice.ensures.value)
    ∙ as_other _ _ _ _ _ _ _ _ c.self.view_is c.other.view_is c.self.invariant c.other.invariant
    c.requires.shape
