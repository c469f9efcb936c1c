use Rattle.std.proofs.Common.{◌≡◌, map, take}
use Rattle.plant_streams.specs.Streams.{streams_of}
use Rattle.report.proofs.Labels.{label_of}
use Rattle.report.proofs.texts.stream_rows.Given as goal

-- a label for each stream so far
abbrev pub invariant-loop-stream : goal.invariant-loop-stream
invariant-loop-stream l = l.rows.items ≡ map label_of (take l.stream-index (streams_of l.plant))
