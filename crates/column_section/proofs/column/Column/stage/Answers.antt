-- Each call gives what its term is, from the innermost outward.
use Rattle.std.proofs.Common.{arith}
use Rattle.quant.specs.Term.{state, input, tray_of}
use Rattle.column_section.specs.Column.{above, below, state_limits, input_limits}
use Rattle.column_section.proofs.Columns.{state-lies}
use Rattle.column_section.proofs.column.Column.stage.Goals as goal

pub stirred-mixed-requires : goal.stirred-mixed-requires
stirred-mixed-requires g c =
    let column = c.args.self.now in
    let held = g.met.R.Reading.takes _ _ c.requires.step.inputs in
    record {
      sound = c.requires.step.sound;
      own = state-lies g.R.Reading.lies_in g.met.R.Reading.wider column c.args.i _ c.requires.step.sound c.requires.stage
          (g.met.R.Reading.placed (state_limits column) c.args.state.now c.args.i _ c.requires.step.states
          (omega (arith, c.requires.stage)) c.index-state-i.is);
      above = c.above-above.ensures.size;
      below = c.below-below.ensures.size;
      liquid = g.met.R.Reading.placed input_limits c.args.ins.now 0 _ held (omega arith) c.index-ins-0.is;
      vapour = g.met.R.Reading.placed input_limits c.args.ins.now 3 _ held (omega arith) c.index-ins-3.is;
      drainable = g.met.R.Reading.drained column c.args.ins.now _ _ c.requires.step.inputs c.index-ins-0.is c.index-ins-3.is;
    }

pub returns : goal.returns
returns g c =
    let column = c.args.self.now in
    c.clamped.ensures c.args.state.now c.args.ins.now
    (tray_of column.holdup column.slope (state c.args.i) (above c.args.i) (below column c.args.i) (input 0) (input 3))
    (c.stirred-mixed.ensures c.args.state.now c.args.ins.now (state c.args.i) (above c.args.i) (below column c.args.i)
    (input 0) (input 3)
    (g.met.R.Reading.at_state c.args.state.now c.args.ins.now c.args.i _ (omega (arith, c.requires.stage))
    c.index-state-i.is)
    c.above-above.ensures.value c.below-below.ensures.value
    (g.met.R.Reading.at_input c.args.state.now c.args.ins.now 0 _ (omega arith) c.index-ins-0.is)
    (g.met.R.Reading.at_input c.args.state.now c.args.ins.now 3 _ (omega arith) c.index-ins-3.is))
