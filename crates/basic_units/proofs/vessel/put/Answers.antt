-- The states are written one after another.
use Rattle.std.proofs.Common.{[], ◌∷◌, refl, ◌∙◌}
use Rattle.quant.proofs.Calls.{filled, same_cons}
use Rattle.basic_units.proofs.vessel.put.Goals as goal

pub returns : goal.returns
returns g c =
    filled c.args.new.now (_ ∷ _ ∷ _ ∷ _ ∷ []) c.requires
    ∙ same_cons _ _ _ _ c.clamped.ensures (same_cons _ _ _ _ c.clamped-2.ensures
    (same_cons _ _ _ _ c.clamped-3.ensures (same_cons _ _ _ _ c.clamped-4.ensures refl)))
