-- The outputs are written one after another.
use Rattle.std.proofs.Common.{◌+◌, ◌-◌, ℤ, rules, [], ◌∷◌, refl, ap, ◌∙◌, arith}
use Rattle.std.proofs.lemmas.Int.{to_z-of_z}
use Rattle.std.specs.Int.{w64}
use Rattle.quant.specs.Term.{state, gain_of}
use Rattle.quant.proofs.Calls.{filled, same_cons}
use Rattle.column_section.specs.Column.{state_limits}
use Rattle.column_section.proofs.Columns.{state-lies}
use Rattle.column_section.proofs.column.Column.show.Goals as goal

pub gained-requires-clause-number : goal.gained-requires-clause-number
gained-requires-clause-number g c =
    state-lies g.R.Reading.lies_in g.met.R.Reading.wider c.args.self.now 0 _ c.requires.sound c.requires.sound.some
    (g.met.R.Reading.placed (state_limits c.args.self.now) c.args.state.now 0 _ c.requires.states (omega arith)
    c.index-state-0.is)

pub returns : goal.returns
returns g c =
    let column = c.args.self.now in
    let states = c.args.state.now in
    let some = c.requires.sound.some in
    let at = g.met.R.Reading.at_state states [] in
    filled c.args.outs.now (_ ∷ _ ∷ _ ∷ _ ∷ _ ∷ _ ∷ []) c.requires.room
    ∙ same_cons _ _ _ _ (at c.args.self.now.stages _ (omega arith) c.index-state-stages.is)
    (same_cons _ _ _ _ (at (c.args.self.now.stages - 1) _ (omega arith) c.index-state-stages-2.is)
    (same_cons _ _ _ _ (at (c.args.self.now.stages + 1) _ (omega arith) c.index-state-stages-3.is)
    (same_cons _ _ _ _ (at (c.args.self.now.stages + 2) _ (omega arith) c.index-state-stages-4.is)
    (same_cons _ _ _ _ (c.clamped.ensures states [] (gain_of column.slope (state 0))
    (c.gained.ensures.value states [] (state 0) (at 0 _ (omega arith) c.index-state-0.is)
    ∙ ap (λ (k : ℤ). g.R.Reading.read states [] (gain_of k (state 0))) (to_z-of_z w64 column.slope (search rules))))
    (same_cons _ _ _ _ (at (c.args.self.now.stages + 3) _ (omega arith) c.index-state-stages-5.is) refl)))))
