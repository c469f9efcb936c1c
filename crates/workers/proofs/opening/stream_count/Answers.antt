use Rattle.std.proofs.Common.{◌∙◌, length, ap, arith}
use Rattle.plant_streams.specs.Streams.{streams_of}
use Rattle.renewal.proofs.Counts.{streams-few}
use Rattle.workers.proofs.opening.stream_count.Goals as goal

pub overflow_cast-result : goal.overflow_cast-result
overflow_cast-result c = omega (arith, streams-few _ c.plant.ensures.plan, ap length (c.streams.ensures ∙ ap streams_of c.plant.ensures.plant))
