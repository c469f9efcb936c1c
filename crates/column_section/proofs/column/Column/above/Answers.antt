-- From the stage above, or from outside.
use Rattle.std.proofs.Common.{◌-◌, ap, sym, ◌∙◌, arith}
use Rattle.column_section.specs.Column.{state_limits, input_limits}
use Rattle.column_section.proofs.Columns.{state-lies, above-first, above-later}
use Rattle.column_section.proofs.column.Column.above.Goals as goal

pub returns-then-i-eq0-clause-value : goal.returns-then-i-eq0-clause-value
returns-then-i-eq0-clause-value g c =
    g.met.R.Reading.at_input c.args.state.now c.args.ins.now 1 _ (omega arith) c.index-ins-1.is
    ∙ sym (ap (g.R.Reading.read c.args.state.now c.args.ins.now) (above-first c.args.i c.if-i-eq0.true))

pub returns-then-i-eq0-clause-size : goal.returns-then-i-eq0-clause-size
returns-then-i-eq0-clause-size g c =
    g.met.R.Reading.placed input_limits c.args.ins.now 1 _ (g.met.R.Reading.takes _ _ c.requires.step.inputs)
    (omega arith) c.index-ins-1.is

pub returns-else-i-eq0-clause-value : goal.returns-else-i-eq0-clause-value
returns-else-i-eq0-clause-value g c =
    g.met.R.Reading.at_state c.args.state.now c.args.ins.now (c.args.i - 1) _ (omega (arith, c.requires.stage))
    c.index-state-i.is
    ∙ sym (ap (g.R.Reading.read c.args.state.now c.args.ins.now) (above-later c.args.i (omega arith)))

pub returns-else-i-eq0-clause-size : goal.returns-else-i-eq0-clause-size
returns-else-i-eq0-clause-size g c =
    state-lies g.R.Reading.lies_in g.met.R.Reading.wider c.args.self.now (c.args.i - 1) _ c.requires.step.sound
    (omega (arith, c.requires.stage))
    (g.met.R.Reading.placed (state_limits c.args.self.now) c.args.state.now (c.args.i - 1) _ c.requires.step.states
    (omega (arith, c.requires.stage)) c.index-state-i.is)
