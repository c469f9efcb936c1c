use Rattle.tubes.proofs.Fronts.{none_is_inside}
use Rattle.tubes.proofs.flat.all_inside.Goals as goal

pub returns : goal.returns
returns c = none_is_inside _ _ _ _ c.is_none.ensures c.requires c.first_outside.ensures
