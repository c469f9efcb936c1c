-- What the checks of a plant's parts give: each unit meets what its steps ask for.
use Rattle.std.specs.Prelude.{◌≡◌, ◌<◌, ℕ, length, List, [], slice_index, slice_index_or, flat_map, suc, ◌∷◌, map}
use Rattle.std.specs.Prelude.{◌≤◌, Ok}
use Rattle.std.specs.List.{AllByRecursion}
use Rattle.quant.specs.Interval.{Interval, AllInside, AllBands}
use Rattle.quant.specs.Limits.{AreLimits}
use Rattle.topology.specs.Links.{AreLinks, AreRanks}
use Rattle.parts.specs.Parts.{FileParts}
use Rattle.parts.specs.InRange.{AreInRange}
use Rattle.plant_streams.specs.declared.streams.StreamSource.TheVariants as source
use Rattle.plant_streams.specs.Streams.{streams_of}
use Rattle.plant_streams.specs.Limits.{source_at, limits_at, source_limits}
use Rattle.plant_streams.specs.declared.streams.StreamSource.{StreamSource}
use Rattle.plant_checks.specs.Checks.{checked}
use Rattle.plant_units.specs.declared.units.Unit.{Unit}
use Rattle.plant_units.specs.Units.{reads_of, gives_of, view_of, opening_of, state_limits_of, output_limits_of}
use Rattle.plant_units.specs.Units.{IsUnitSound, MayTake, units_of}
use Rattle.plant.specs.PlantOf.{links_of, ranks_of, most_rank}

-- the stream is the output of a unit with this number
abbrev pub IsOutput : FileParts → ℕ → ℕ → ℕ → Type 0
IsOutput parts u p s = (s < length (streams_of parts)) × (source_at parts s ≡ source.Port u p)

-- bands of all streams inside their limits
abbrev pub AreInside : FileParts → (ℕ → List Interval) → Type 0
AreInside parts streams = (s : ℕ) → s < length (streams_of parts) → AllInside (streams s) (limits_at parts s)

-- A unit with this number: its parameters are in range; it reads streams that are there, and may take whatever is
-- inside their limits; each of its outputs is a stream, with its limits; and it starts inside its own.
pub record IsSoundUnit (parts : FileParts) (u : ℕ) (x : Unit) : Type 0 where
  pub sound : IsUnitSound x
  pub reads : AllByRecursion (λ s. s < length (streams_of parts)) (reads_of x)
  pub takes : (row : List Interval) → AllInside row (flat_map (limits_at parts) (reads_of x)) → MayTake x row
  pub counted : length (gives_of x) ≡ length (view_of x)
  pub gives : (p : ℕ) → p < length (gives_of x) → IsOutput parts u p (slice_index (gives_of x) p)
  pub limits : (p : ℕ) → p < length (gives_of x) →
      limits_at parts (slice_index (gives_of x) p) ≡ slice_index_or (output_limits_of x) p []
  pub starts : AllInside (opening_of x) (state_limits_of x)
  pub bands : AllBands (opening_of x)

-- the units from number u on
abbrev pub AreSoundFrom : FileParts → ℕ → List Unit → Type 0
AreSoundFrom parts u [] = Prim.Unit {0}
AreSoundFrom parts u (x ∷ rest) = IsSoundUnit parts u x × AreSoundFrom parts (suc u) rest

-- the numbers of the streams that the unit with this number gives
abbrev pub outputs_at : FileParts → ℕ → List ℕ
outputs_at parts u = slice_index_or (map gives_of (units_of parts)) u []

-- the stream with this number is the feed with it, or the output that a unit has there
abbrev pub IsSource : FileParts → ℕ → StreamSource → Type 0
IsSource parts s (source.Feed f) = (f ≡ s) × (f < length parts.feeds)
IsSource parts s (source.Port u p) =
    (u < length (units_of parts)) × (p < length (outputs_at parts u)) × (slice_index (outputs_at parts u) p ≡ s)

pub record ArePartsSound (parts : FileParts) : Type 0 where
  pub units : AreSoundFrom parts 0 (units_of parts)
  pub counted : length (units_of parts) ≡ length parts.units
  -- the feeds come first among the streams
  pub feeds : (f : ℕ) → f < length parts.feeds → source_at parts f ≡ source.Feed f
  pub feeds_counted : (f : ℕ) → f < length parts.feeds → f < length (streams_of parts)
  -- each stream has a source, and its limits are limits
  pub sources : (s : ℕ) → s < length (streams_of parts) → IsSource parts s (source_at parts s)
  pub limits : (s : ℕ) → s < length (streams_of parts) → AreLimits (source_limits parts (source_at parts s))
  -- units read units that are there
  pub links : AreLinks (links_of parts)

-- What a built plant keeps of its parts: they are in range and pass the checks; no instant unit reaches itself, so
-- the ranks are ranks; and none is too great.
pub record IsPlant (parts : FileParts) : Type 0 where
  pub ranges : AreInRange parts
  pub passes : checked parts ≡ Ok tt
  pub ranked : AreRanks (links_of parts) (ranks_of parts)
  pub shallow : (u : ℕ) → slice_index (ranks_of parts) u ≤ most_rank
