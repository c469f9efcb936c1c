-- The ports, references and streams that the code lists, as the definitions see them.
use Rattle.std.specs.Prelude.{ℕ, ◌++◌, List, map, slice_index_or, codes, decimal, Option, Some, None}
use Rattle.plant_streams.specs.declared.streams.Stream.{Stream}
use Rattle.plant_streams.specs.declared.streams.StreamSource.{StreamSource}
use Rattle.plant_streams.specs.declared.streams.StreamSource.TheVariants as source
use Rattle.plant_streams.specs.declared.ports.Port.{Port}
use Rattle.plant_streams.specs.declared.ports.Port.TheVariants as port
use Rattle.plant_streams.specs.declared.ports.Reference.{Reference}
use Rattle.plant_streams.specs.Streams as streams

abbrev pub port_seen : Port → streams.Port
port_seen (port.Material name) = streams.material name.now
port_seen (port.Signal name) = streams.signal name.now

-- a key, with an index where it has one
abbrev pub with_index : List ℕ → Option ℕ → List ℕ
with_index key None = key
with_index key (Some i) = key ++ codes "[" ++ decimal i ++ codes "]"

abbrev pub reference_seen : Reference → streams.Reference
reference_seen reference = record {
  key = with_index reference.key.now reference.index;
  name = reference.name.now;
  signal = reference.signal;
}

-- the source of a stream of a list
abbrev pub source_seen : List Stream → ℕ → StreamSource
source_seen list s = slice_index_or (map (λ stream. stream.source) list) s (source.Feed 0)
