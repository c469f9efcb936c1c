-- Words of the proofs: a reader of the contracts needs none of them.
-- The links and the ranks that the code looks at, as the definitions see them.
use Rattle.std.specs.Prelude.{ℕ, ◌<◌, ◌≤◌, List, length, map, flat_map, slice_index}
use Rattle.topology.specs.Links.{LinkLists}
use Rattle.plant_streams.specs.declared.streams.Stream.{Stream}
use Rattle.plant_streams.specs.Seen.{source_seen}
use Rattle.plant_units.specs.declared.units.Unit.{Unit}
use Rattle.plant_units.specs.Units.{is_instant, reads_of}
use Rattle.plant.specs.PlantOf.{giver_in}

-- the units that give some of the streams of a list
abbrev pub givers_seen : List Stream → List ℕ → List ℕ
givers_seen list numbers = flat_map (λ s. giver_in (source_seen list s)) numbers

-- the links of units by the streams of a list
abbrev pub links_seen : List Stream → List Unit → LinkLists
links_seen list made = record {
  instant = map is_instant made;
  reads = map (λ x. givers_seen list (reads_of x)) made;
}

-- the first number of a list that is above a greatest one
pub record IsFirstAbove (most : ℕ) (numbers : List ℕ) (u : ℕ) : Type 0 where
  pub there : u < length numbers
  pub above : most < slice_index numbers u
  pub first : (v : ℕ) → v < u → slice_index numbers v ≤ most
