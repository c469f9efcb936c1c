-- Words of the proofs: the first lines of a summary.
use Rattle.std.specs.Prelude.{ℕ, List, ◌++◌, codes, decimal, length}
use Rattle.parts.specs.Parts.{FileParts}
use Rattle.plant_streams.specs.Streams.{streams_of}
use Rattle.demo.specs.Summary.{line_of}

abbrev pub size_lines : ℕ → FileParts → List ℕ
size_lines stages parts =
    line_of (codes "demo") (decimal stages) ++ (line_of (codes "units") (decimal (length parts.units))
    ++ (line_of (codes "streams") (decimal (length (streams_of parts))) ++ line_of (codes "ticks") (decimal parts.ticks)))
