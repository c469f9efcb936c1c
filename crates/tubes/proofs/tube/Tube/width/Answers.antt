use Rattle.std.proofs.Common.{sym, ◌∙◌, ap}
use Rattle.std.specs.List.{sum_by}
use Rattle.relaxation.specs.Tube.{width}
use Rattle.tubes.specs.Flat.{reach}
use Rattle.tubes.proofs.Cuts.{cut_width}
use Rattle.tubes.proofs.tube.Tube.width.Goals as goal

pub returns : goal.returns
returns c =
    c.width.ensures
    ∙ (ap (sum_by reach) c.as_slice.ensures.value
    ∙ (sym (cut_width _ _ c.self.inside.bands.items c.self.invariant) ∙ ap width c.self.view_is))
