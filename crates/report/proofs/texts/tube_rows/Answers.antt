use Rattle.std.proofs.Common.{◌∙◌}
use Rattle.report.proofs.Ticks.{rows_more}
use Rattle.report.proofs.texts.tube_rows.Goals as goal

pub loop-tick-preserved : goal.loop-tick-preserved
loop-tick-preserved c = record {
  streams = c.put_tick.ensures.streams ∙ c.loop-tick.invariant.streams;
  rows = rows_more c.args.plant.now c.args.window.now c.loop-tick.tick c.loop-tick.rows c.put_tick.new.rows
      c.loop-tick.invariant.rows c.in_ok-put_tick.ensures.rows;
}
