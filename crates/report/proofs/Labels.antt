-- How a stream is printed.
use Rattle.plant_streams.specs.declared.streams.Stream.{Stream}
use Rattle.tables.specs.Output.{Label}

abbrev pub label_of : Stream → Label
label_of stream = record { name = stream.name; signal = stream.signal }
