use Rattle.std.proofs.Common.{sym, subst}
use Rattle.tubes.specs.Flat.{IsFirstApart}
use Rattle.tubes.proofs.Fronts.{none_from, first_from}
use Rattle.tubes.proofs.flat.first_empty_from.Goals as goal

pub returns-in_err-place : goal.returns-in_err-place
returns-in_err-place c = subst (λ r. IsFirstApart r c.args.bands.now c.args.others.now) (sym c.from_residual.ensures)
    (none_from _ _ _ c.requires.counted c.requires.start c.requires.inside c.in_err-place.ensures)

pub returns : goal.returns
returns c = first_from _ _ _ c.requires.counted c.requires.start c.requires.inside _ c.in_ok-place.ensures
