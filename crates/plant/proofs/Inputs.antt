-- A unit may take what it reads of streams inside their limits.
use Rattle.std.proofs.Common.{ℕ, ◌<◌, List, [], ◌∷◌, length}
use Rattle.std.specs.Prelude.{flat_map}
use Rattle.std.specs.List.{AllByRecursion}
use Rattle.quant.specs.Interval.{Interval, AllInside}
use Rattle.parts.specs.Parts.{FileParts}
use Rattle.plant_streams.specs.Streams.{streams_of}
use Rattle.plant_streams.specs.Limits.{limits_at}
use Rattle.plant_units.specs.declared.units.Unit.{Unit}
use Rattle.plant_units.specs.Units.{reads_of, MayTake}
use Rattle.plant.specs.Sound.{IsSoundUnit, AreInside}
use Rattle.plant.proofs.Takes.{inside-append}

-- the inputs lie in the limits of what is read
pub inputs-inside : (parts : FileParts) (streams : ℕ → List Interval) (reads : List ℕ) →
    AllByRecursion (λ s. s < length (streams_of parts)) reads → AreInside parts streams →
    AllInside (flat_map streams reads) (flat_map (limits_at parts) reads)
inputs-inside parts streams [] there inside = tt
inputs-inside parts streams (s ∷ reads) there inside =
    inside-append (streams s) (flat_map streams reads) (limits_at parts s) (flat_map (limits_at parts) reads)
    (inside s there.0) (inputs-inside parts streams reads there.1 inside)

pub takes-streams : (parts : FileParts) (u : ℕ) (x : Unit) (streams : ℕ → List Interval) → IsSoundUnit parts u x →
    AreInside parts streams → MayTake x (flat_map streams (reads_of x))
takes-streams parts u x streams t inside =
    t.takes (flat_map streams (reads_of x)) (inputs-inside parts streams (reads_of x) t.reads inside)
