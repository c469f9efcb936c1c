use Rattle.std.proofs.Common.{ap, length, arith}
use Rattle.plant_streams.proofs.Counts.{few_streams}
use Rattle.window_accept.proofs.wide.wide_at.Goals as goal

pub overflow_cast-stream : goal.overflow_cast-stream
overflow_cast-stream c =
    let ranges = c.requires.window.plant.ranges in
    omega (arith, few_streams c.args.plant.now ranges.feeds.0 ranges.units.1, ap length c.streams-stream-end.ensures)
