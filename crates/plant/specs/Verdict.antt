-- The verdict on a plant's parts: they are a plant, or this is the first refusal.
use Rattle.std.specs.Prelude.{ℕ, List, [], map, slice_index_or, ◌<◌, ◌≤◌, length, slice_index, ◌≡◌, Ok, Err, Result}
use Rattle.topology.specs.Links.{AreRanks, IsFirstLoop}
use Rattle.parts.specs.Parts.{FileParts}
use Rattle.plant_streams.specs.declared.streams.Stream.{Stream}
use Rattle.plant_streams.specs.Streams.{streams_of}
use Rattle.plant_checks.specs.declared.fault.PlantFault.TheVariants as fault
use Rattle.plant_checks.specs.Checks.{Checked, checked}
use Rattle.plant_checks.specs.declared.fault.Unbuilt.{Unbuilt}
use Rattle.plant_checks.specs.declared.fault.Unbuilt.TheVariants as unbuilt
use Rattle.plant_units.specs.declared.units.Unit.{Unit}
use Rattle.plant_units.specs.Units.{units_of}
use Rattle.plant.specs.PlantOf.{links_of, ranks_of, most_rank}
use Rattle.plant.specs.Sound.{IsPlant}

-- the name of the unit with this number
abbrev pub unit_name : FileParts → ℕ → List ℕ
unit_name parts u = slice_index_or (map (λ unit_part. unit_part.name) parts.units) u []

-- the ranks are ranks: no instant unit reaches itself through instant units alone
abbrev pub AreRanked : FileParts → Type 0
AreRanked parts = AreRanks (links_of parts) (ranks_of parts)

-- the first unit of too great a rank
pub record IsFirstDeep (parts : FileParts) (u : ℕ) : Type 0 where
  pub there : u < length parts.units
  pub deep : most_rank < slice_index (ranks_of parts) u
  pub first : (v : ℕ) → v < u → slice_index (ranks_of parts) v ≤ most_rank

-- The parts pass the checks, and then the ranks are judged: whether there are any, and whether one is too great.
abbrev pub IsVerdict : FileParts → Checked → Type 0
IsVerdict parts (Ok done) =
    (checked parts ≡ Ok tt) × AreRanked parts × ((u : ℕ) → slice_index (ranks_of parts) u ≤ most_rank)
IsVerdict parts (Err (fault.InstantLoop name)) =
    (checked parts ≡ Ok tt) × ((u : ℕ) × IsFirstLoop (links_of parts) u × (name ≡ unit_name parts u))
IsVerdict parts (Err (fault.TooDeep name)) =
    (checked parts ≡ Ok tt) × AreRanked parts × ((u : ℕ) × IsFirstDeep parts u × (name ≡ unit_name parts u))
IsVerdict parts (Err refusal) = checked parts ≡ Err refusal

-- what a call answers is the verdict, unless memory ran out
abbrev pub Builds : {X : Type 0} → Result X Unbuilt → FileParts → Type 0
Builds (Ok x) parts = IsVerdict parts (Ok tt)
Builds (Err (unbuilt.Fault refusal)) parts = IsVerdict parts (Err refusal)
Builds (Err unbuilt.NoMemory) parts = Prim.Unit {0}

-- what a built plant is: parts that are a plant, with their streams, units and ranks
pub record IsBuilt (parts : FileParts) (made_streams : List Stream) (made_units : List Unit)
    (made_ranks : List ℕ) : Type 0 where
  pub plant : IsPlant parts
  pub streams : made_streams ≡ streams_of parts
  pub units : made_units ≡ units_of parts
  pub ranks : made_ranks ≡ ranks_of parts
