-- Each channel is clamped by its limits.
use Rattle.std.proofs.Common.{[], ◌∷◌, refl, ◌∙◌, arith}
use Rattle.quant.specs.Term.{input}
use Rattle.quant.proofs.Calls.{filled, same_cons}
use Rattle.column_section.specs.Column.{input_limits}
use Rattle.column_section.proofs.column.Column.register.Goals as goal

pub returns : goal.returns
returns g c =
    let ins = c.args.ins.now in
    let e = g.met.R.Reading.long input_limits _ (g.met.R.Reading.takes _ _ c.requires.inputs) in
    filled c.args.new.now (_ ∷ _ ∷ _ ∷ _ ∷ []) c.requires.room
    ∙ same_cons _ _ _ _ (c.clamped.ensures [] ins (input 0)
    (g.met.R.Reading.at_input [] ins 0 _ (omega arith) c.index-ins-0.is))
    (same_cons _ _ _ _ (c.clamped-2.ensures [] ins (input 2)
    (g.met.R.Reading.at_input [] ins 2 _ (omega arith) c.index-ins-2.is))
    (same_cons _ _ _ _ (c.clamped-3.ensures [] ins (input 3)
    (g.met.R.Reading.at_input [] ins 3 _ (omega arith) c.index-ins-3.is))
    (same_cons _ _ _ _ (c.clamped-4.ensures [] ins (input 5)
    (g.met.R.Reading.at_input [] ins 5 _ (omega arith) c.index-ins-5.is)) refl)))
