-- The plant of its parts, as the definitions of plants and their runs see it.
use Rattle.std.specs.Prelude.{ℕ, List, [], ◌∷◌, flat_map, map, max, fold, slice_index_or}
use Rattle.quant.specs.Rounding.{Floor}
use Rattle.quant.specs.Interval.{Interval}
use Rattle.topology.specs.Links.{LinkLists}
use Rattle.topology.specs.Ranked.{ranks_in}
use Rattle.flowsheet.specs.Plant as sheet
use Rattle.parts.specs.Parts.{FileParts}
use Rattle.plant_streams.specs.declared.streams.StreamSource.{StreamSource}
use Rattle.plant_streams.specs.declared.streams.StreamSource.TheVariants as source
use Rattle.plant_streams.specs.Limits.{source_at}
use Rattle.plant_streams.specs.Streams.{streams_of}
use Rattle.plant_units.specs.Units.{units_of, reads_of, is_instant, sheet_unit, opening_of}

-- where a stream comes from
abbrev pub origin_in : StreamSource → sheet.Origin
origin_in (source.Feed f) = sheet.feed f
origin_in (source.Port u p) = sheet.port u p

-- the unit that gives a stream
abbrev pub giver_in : StreamSource → List ℕ
giver_in (source.Feed f) = []
giver_in (source.Port u p) = u ∷ []

-- which units are instant, and which units each reads
unfoldable pub links_of : FileParts → LinkLists
links_of parts = record {
  instant = map is_instant (units_of parts);
  reads = map (λ x. flat_map (λ s. giver_in (source_at parts s)) (reads_of x)) (units_of parts);
}

-- the rank of each unit, and the greatest that a unit may have
abbrev pub ranks_of : FileParts → List ℕ
ranks_of parts = ranks_in (links_of parts)

abbrev pub most_rank : ℕ
most_rank = 16

-- the plant of the parts
unfoldable pub plant_of : FileParts → sheet.Plant
plant_of parts = record {
  units = map sheet_unit (units_of parts);
  streams = map (λ stream. origin_in stream.source) (streams_of parts);
  ranks = ranks_of parts;
  top = fold max 0 (ranks_of parts);
  rounding = Floor;
}

-- the opening bands of each unit's states
abbrev pub carried_of : FileParts → ℕ → List Interval
carried_of parts u = slice_index_or (map opening_of (units_of parts)) u []
