use Rattle.std.proofs.Common.{length, ap, arith}
use Rattle.stepping.proofs.Runs.{streams-few}
use Rattle.stepping.proofs.counts.stream_count.Goals as goal

pub overflow_cast-result : goal.overflow_cast-result
overflow_cast-result c = omega (arith, streams-few _ c.parts.ensures.plant, ap length c.streams.ensures)
