use Rattle.std.proofs.Common.{sym, ap, ◌∙◌, length}
use Rattle.relaxation.specs.Tube.{all_inside}
use Rattle.tubes.proofs.Shapes.{as_long, inside_is}
use Rattle.tubes.proofs.tube.Tube.inside.Goals as goal

pub all_inside-requires : goal.all_inside-requires
all_inside-requires c =
    ap length c.as_slice.ensures.value
    ∙ (as_long _ _ _ _ _ _ _ _ c.self.view_is c.other.view_is c.self.invariant c.other.invariant
    c.requires.shape
    ∙ ap length (sym c.as_slice-2.ensures.value))

pub returns : goal.returns
returns c =
    c.all_inside.ensures
    ∙ (ap (all_inside c.as_slice.result.now) c.as_slice-2.ensures.value
    ∙ (ap (λ bands. all_inside bands c.other.inside.bands.items) c.as_slice.ensures.value
    ∙ inside_is _ _ _ _ _ _ _ _ c.self.view_is c.other.view_is c.self.invariant c.other.invariant
    c.requires.shape))
