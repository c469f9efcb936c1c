-- The output is a state.
use Rattle.std.proofs.Common.{ℤ, pos, FitsSigned, rules, [], ◌∷◌, refl, ◌∙◌}
use Rattle.std.proofs.lemmas.Int.{to_z-of_z}
use Rattle.std.specs.Int.{w64}
use Rattle.std.specs.Prelude.{slice_index_or}
use Rattle.quant.proofs.Calls.{filled, same_cons}
use Rattle.controllers.proofs.controller.ControllerKind.view_point.Goals as goal

pub returns : goal.returns
returns c =
    let out : ℤ = slice_index_or c.args.state.now 1 (pos 0) in
    let o : FitsSigned w64 out = search rules in
    filled c.args.outs.now (_ ∷ []) c.requires.room ∙ same_cons _ _ _ _ (to_z-of_z w64 out o) refl
