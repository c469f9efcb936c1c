-- A stream's bands are the row's.
use Rattle.std.proofs.Common.{ap, length, sym, arith}
use Rattle.plant_streams.proofs.Counts.{few_streams}
use Rattle.plant.specs.Rows.{stream_in}
use Rattle.window_accept.proofs.Places.{none-more, first-at-tick}
use Rattle.window_accept.proofs.wide.wide_in_row.Goals as goal

pub overflow_cast-count : goal.overflow_cast-count
overflow_cast-count c =
    let ranges = c.parts.ensures.plant.ranges in
    omega (arith, few_streams c.args.plant.now ranges.feeds.0 ranges.units.1, ap length c.streams.ensures)

pub returns-in-Some : goal.returns-in-Some
returns-in-Some c = first-at-tick _ (λ t s. stream_in c.args.row.now s) c.args.tick c.loop-stream.stream c.loop-stream.invariant
    c.in-Some.place (c.in-Some.ensures _ (sym c.stream.ensures))

pub loop-stream-preserved : goal.loop-stream-preserved
loop-stream-preserved c = none-more _ (λ t s. stream_in c.args.row.now s) c.args.tick c.loop-stream.stream c.loop-stream.invariant
    (c.in_default.ensures _ (sym c.stream.ensures))
