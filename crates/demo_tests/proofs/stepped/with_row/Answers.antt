use Rattle.std.proofs.Common.{ap, length, arith}
use Rattle.plant_streams.proofs.Counts.{few_streams}
use Rattle.demo_tests.proofs.stepped.with_row.Goals as goal

pub overflow_cast-count : goal.overflow_cast-count
overflow_cast-count c =
    let ranges = c.parts.ensures.plant.ranges in
    omega (arith, few_streams c.args.plant.now ranges.feeds.0 ranges.units.1, ap length c.streams.ensures)
