-- The output's rows of a window: for each of its ticks, each stream in order and each of its channels in order one row.
use Rattle.std.specs.Prelude.{ℕ, List, map}
use Rattle.parts.specs.Parts.{FileParts}
use Rattle.plant_streams.specs.Streams.{streams_of}
use Rattle.tables.specs.Output.{Label, rows_of}
use Rattle.relax_core.specs.Settled.{WindowOf, bands_in}

-- the names under which the streams are printed
abbrev pub labels_of : FileParts → List Label
labels_of parts = map (λ stream. record { name = stream.name; signal = stream.signal }) (streams_of parts)

abbrev pub output_rows : FileParts → WindowOf → List ℕ
output_rows parts window = rows_of (labels_of parts) (bands_in window) window.first window.ticks
