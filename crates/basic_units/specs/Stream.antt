-- The stream that flows into a unit at its first inputs.
use Rattle.quant.specs.Ports.{Stream, stream_at}

abbrev pub inflow : Stream
inflow = stream_at 0
