-- The output is a state.
use Rattle.std.proofs.Common.{[], ◌∷◌, refl, ◌∙◌, arith}
use Rattle.quant.proofs.Calls.{filled, same_cons, read, inside-length}
use Rattle.controllers.specs.Controller.{state_limits}
use Rattle.controllers.proofs.controller.ControllerKind.view_band.Goals as goal

pub bounds-state-1 : goal.bounds-state-1
bounds-state-1 c = let e = inside-length c.args.state.now
    (state_limits c.args.self.now) c.requires.states in omega arith

pub returns : goal.returns
returns c =
    let states = c.args.state.now in
    let e = inside-length states (state_limits c.args.self.now) c.requires.states in
    filled c.args.outs.now (_ ∷ []) c.requires.room ∙
    same_cons _ _ _ _ (read states 1 _ (omega arith) c.index-state-1.is) refl
