-- From the stage below, or from outside.
use Rattle.std.proofs.Common.{◌+◌, ℤ, rules, ap, sym, ◌∙◌, arith}
use Rattle.std.proofs.lemmas.Int.{ints, to_z-of_z}
use Rattle.std.specs.Int.{w64}
use Rattle.quant.specs.Interval.{wide}
use Rattle.quant.specs.Operation.{contents}
use Rattle.quant.specs.Term.{state, gain_of}
use Rattle.column_section.specs.Column.{state_limits, input_limits}
use Rattle.column_section.proofs.Columns.{state-lies, below-middle, below-last}
use Rattle.column_section.proofs.column.Column.below.Goals as goal

pub gained-requires-clause-number : goal.gained-requires-clause-number
gained-requires-clause-number g c =
    state-lies g.R.Reading.lies_in g.met.R.Reading.wider c.args.self.now (c.args.i + 1) _ c.requires.step.sound c.if-i-self.true
    (g.met.R.Reading.placed (state_limits c.args.self.now) c.args.state.now (c.args.i + 1) _ c.requires.step.states
    (omega (arith, c.if-i-self.true)) c.index-state-i.is)

pub returns-then-i-self-clause-value : goal.returns-then-i-self-clause-value
returns-then-i-self-clause-value g c =
    let column = c.args.self.now in
    c.gained.ensures.value c.args.state.now c.args.ins.now (state (c.args.i + 1))
    (g.met.R.Reading.at_state c.args.state.now c.args.ins.now (c.args.i + 1) _ (omega (arith, c.if-i-self.true))
    c.index-state-i.is)
    ∙ ap (λ (k : ℤ). g.R.Reading.read c.args.state.now c.args.ins.now (gain_of k (state (c.args.i + 1))))
    (to_z-of_z w64 column.slope (search rules))
    ∙ sym (ap (g.R.Reading.read c.args.state.now c.args.ins.now) (below-middle column c.args.i c.if-i-self.true))

pub returns-else-i-self-clause-value : goal.returns-else-i-self-clause-value
returns-else-i-self-clause-value g c =
    g.met.R.Reading.at_input c.args.state.now c.args.ins.now 4 _ (omega arith) c.index-ins-4.is
    ∙ sym (ap (g.R.Reading.read c.args.state.now c.args.ins.now) (below-last c.args.self.now c.args.i c.if-i-self.false))

pub returns-else-i-self-clause-size : goal.returns-else-i-self-clause-size
returns-else-i-self-clause-size g c =
    g.met.R.Reading.wider wide contents _
    (g.met.R.Reading.placed input_limits c.args.ins.now 4 _ (g.met.R.Reading.takes _ _ c.requires.step.inputs)
    (omega arith) c.index-ins-4.is) (record { above = omega (arith, ints); below = omega (arith, ints) })
