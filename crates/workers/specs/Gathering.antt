-- The made versions of all histories in one list, as a board adopts them.
use Rattle.std.specs.Prelude.{◌≡◌, List, map}
use Rattle.relaxation.specs.History.{History}
use Rattle.relaxation.specs.Gathered.{Made, IsGathered}
use Rattle.relax_core.specs.Adopting.{MadeOf}

-- a made version as a board adopts it, which does not ask who made it
abbrev pub answer_of : Made → MadeOf
answer_of made = record {
  stream = made.stream;
  number = made.version.number;
  stamp = made.version.stamp;
  refs = made.version.refs;
  tube = made.version.tube;
}

-- those of every history once, by stamp and then by stream
abbrev pub AreGathered : List History → List MadeOf → Type 0
AreGathered histories gathered = (made : List Made) × IsGathered histories made × (gathered ≡ map answer_of made)
