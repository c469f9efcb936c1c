-- The outputs are written one after another.
use Rattle.std.proofs.Common.{[], ◌∷◌, refl, ap, ◌∙◌, arith}
use Rattle.quant.proofs.Calls.{filled, same_cons}
use Rattle.basic_units.proofs.Vessels.{read-any}
use Rattle.basic_units.proofs.vessel.show.Goals as goal

pub returns : goal.returns
returns g c none =
    let states = c.args.state.now in
    let four = c.requires.states in
    filled c.args.outs.now (_ ∷ _ ∷ _ ∷ _ ∷ []) c.requires.room
    ∙ same_cons _ _ _ _ (read-any states 1 _ none (omega arith) c.index-state-1.is)
    (same_cons _ _ _ _ (read-any states 2 _ none (omega arith) c.index-state-2.is)
    (same_cons _ _ _ _ (read-any states 3 _ none (omega arith) c.index-state-3.is)
    (same_cons _ _ _ _ (c.clamped.ensures ∙ ap (g.A.Amount.clamped c.args.limits.now.signal)
    (read-any states 0 _ none (omega arith) c.index-state-0.is)) refl)))
