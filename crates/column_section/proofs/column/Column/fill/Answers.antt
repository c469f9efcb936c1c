-- Each stage is made in its turn.
use Rattle.std.proofs.Common.{◌≡◌, ℕ, ◌+◌, ◌<◌, get_or, set, sym, subst, arith}
use Rattle.std.proofs.lemmas.List.Edits.{fill_by_more}
use Rattle.quant.specs.Term.{state}
use Rattle.column_section.specs.Column.{stage}
use Rattle.column_section.proofs.Columns.{filled-stages}
use Rattle.column_section.proofs.column.Column.fill.Goals as goal

pub loop-i-preserved : goal.loop-i-preserved
loop-i-preserved g c =
    subst (λ v. (k : ℕ) → k < c.loop-i.i + 1 →
    get_or (set c.loop-i.contents c.loop-i.i v) k (g.R.Reading.read c.args.state.now c.args.ins.now (state 0))
    ≡ g.R.Reading.read c.args.state.now c.args.ins.now (stage c.args.self.now k)) (sym c.stage.ensures)
    (fill_by_more (λ k. g.R.Reading.read c.args.state.now c.args.ins.now (stage c.args.self.now k)) c.loop-i.contents
    c.loop-i.i (g.R.Reading.read c.args.state.now c.args.ins.now (state 0)) (omega arith) c.loop-i.invariant)

pub returns : goal.returns
returns g c =
    filled-stages c.args.self.now (g.R.Reading.read c.args.state.now c.args.ins.now) c.loop-i.contents
    (g.R.Reading.read c.args.state.now c.args.ins.now (state 0)) (omega arith)
    (λ k h. c.loop-i.invariant k (omega arith))
