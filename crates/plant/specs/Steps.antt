-- Words of the proofs: a reader of the contracts needs none of them.
-- The units' parts of a tick, one after another.
use Rattle.std.specs.Prelude.{ℕ, slice_index, List, max, fold, ◌≡◌, true, ◌==◌, if◌then◌else◌, ◌<◌, length, ◌⊎◌, ◌≤◌}
use Rattle.quant.specs.Interval.{Interval, AllInside}
use Rattle.flowsheet.specs.Reading.{on_bands, inputs_of, shown, stepped}
use Rattle.flowsheet.specs.Run.{streams_at}
use Rattle.flowsheet.specs.Plant.{unit_at}
use Rattle.parts.specs.Parts.{FileParts}
use Rattle.parts.specs.Given.{given_bands}
use Rattle.plant_streams.specs.declared.streams.StreamSource.{StreamSource}
use Rattle.plant_streams.specs.declared.streams.StreamSource.TheVariants as source
use Rattle.plant_streams.specs.Streams.{streams_of}
use Rattle.plant_streams.specs.Limits.{source_at, limits_at}
use Rattle.plant_units.specs.Steps.{bands_at}
use Rattle.plant_units.specs.Units.{units_of}
use Rattle.plant.specs.PlantOf.{ranks_of, plant_of}
use Rattle.plant.specs.Sound.{AreInside}
use Rattle.plant.specs.Rows.{IsRow}

-- the rank of a unit
abbrev pub rank_at : FileParts → ℕ → ℕ
rank_at parts u = slice_index (ranks_of parts) u

-- the greatest of ranks
abbrev pub greatest : List ℕ → ℕ
greatest ranks = fold max 0 ranks

-- all streams at this tick, from the feeds among these streams and the states
abbrev pub run_at : FileParts → List (List Interval) → List (List Interval) → ℕ → List Interval
run_at parts states streams =
    streams_at (on_bands (plant_of parts)) (plant_of parts) (bands_at streams) (bands_at states)

-- what a unit shows at an output, from the states of all units and all streams
abbrev pub shown_by : FileParts → List (List Interval) → (ℕ → List Interval) → ℕ → ℕ → List Interval
shown_by parts states streams u p =
    shown (on_bands (plant_of parts)) (unit_at (plant_of parts) u) p (bands_at states u)
    (inputs_of (unit_at (plant_of parts) u) streams)

-- a unit that holds nothing back reads what it might where all streams were inside their limits
abbrev pub IsReady : FileParts → ℕ → List (List Interval) → Type 0
IsReady parts n streams =
    (unit_at (plant_of parts) n).instant ≡ true → ((others : ℕ → List Interval) × AreInside parts others ×
    (inputs_of (unit_at (plant_of parts) n) (bands_at streams) ≡ inputs_of (unit_at (plant_of parts) n) others))

-- a stream after unit n has shown itself
abbrev pub shown_at : FileParts → List (List Interval) → List (List Interval) → ℕ → List Interval →
    StreamSource → List Interval
shown_at parts states streams n before (source.Feed f) = before
shown_at parts states streams n before (source.Port u p) =
    if u == n then shown_by parts states (bands_at streams) u p else before

-- Unit n has shown itself in the streams: each has as many channels as before.
pub record HasShown (parts : FileParts) (n : ℕ) (states before after : List (List Interval)) : Type 0 where
  pub shown : (s : ℕ) → s < length (streams_of parts) →
      bands_at after s ≡ shown_at parts states before n (bands_at before s) (source_at parts s)
  pub widths : (s : ℕ) → length (bands_at after s) ≡ length (bands_at before s)

-- a unit of lesser rank than r, or of rank r and below n
abbrev pub IsDone : FileParts → ℕ → ℕ → ℕ → Type 0
IsDone parts r n u = (rank_at parts u < r) ⊎ ((rank_at parts u ≡ r) × (u < n))

-- the units of lesser rank than r have shown themselves, and those of rank r and below n
pub record HaveShown (parts : FileParts) (r n : ℕ) (states streams : List (List Interval)) : Type 0 where
  pub row : IsRow parts (record { states = states; streams = streams })
  pub shown : (s u p : ℕ) → s < length (streams_of parts) → source_at parts s ≡ source.Port u p → IsDone parts r n u →
      bands_at streams s ≡ run_at parts states streams s

-- the feeds stand as before
pub record AreKept (parts : FileParts) (before after : List (List Interval)) : Type 0 where
  pub kept : (f : ℕ) → f < length parts.feeds → bands_at after f ≡ bands_at before f

-- all units have shown themselves
pub record AreShown (parts : FileParts) (states before after : List (List Interval)) : Type 0 where
  pub row : IsRow parts (record { states = states; streams = after })
  pub shown : (s : ℕ) → s < length (streams_of parts) → bands_at after s ≡ run_at parts states before s

-- each stream is inside its limits
pub record AreStreams (parts : FileParts) (streams : List (List Interval)) : Type 0 where
  pub counted : length streams ≡ length (streams_of parts)
  pub inside : AreInside parts (bands_at streams)

-- so are the states of each unit
pub record AreStates (parts : FileParts) (states : List (List Interval)) : Type 0 where
  pub counted : length states ≡ length (units_of parts)
  pub inside : (u : ℕ) → u < length (units_of parts) →
      AllInside (bands_at states u) (unit_at (plant_of parts) u).state_limits

-- what a unit steps to, from its states and all streams
abbrev pub stepped_by : FileParts → List (List Interval) → ℕ → List Interval → List Interval
stepped_by parts streams u before =
    stepped (on_bands (plant_of parts)) (unit_at (plant_of parts) u) before
    (inputs_of (unit_at (plant_of parts) u) (bands_at streams))

-- the units below n have stepped their states
pub record HaveStepped (parts : FileParts) (n : ℕ) (streams before after : List (List Interval)) : Type 0 where
  pub states : AreStates parts after
  pub stepped : (u : ℕ) → u < length (units_of parts) → u < n →
      bands_at after u ≡ stepped_by parts streams u (bands_at before u)
  pub rest : (u : ℕ) → n ≤ u → bands_at after u ≡ bands_at before u

-- as many streams as the plant has, each with its channels
pub record HasChannels (parts : FileParts) (streams : List (List Interval)) : Type 0 where
  pub counted : length streams ≡ length (streams_of parts)
  pub channels : (s : ℕ) → s < length (streams_of parts) → length (bands_at streams s) ≡ length (limits_at parts s)

-- the feeds below n have their bands at this tick
pub record HaveGiven (parts : FileParts) (tick n : ℕ) (before after : List (List Interval)) : Type 0 where
  pub counted : length after ≡ length before
  pub given : (f : ℕ) → f < length parts.feeds → f < n → bands_at after f ≡ given_bands parts tick f
  pub rest : (s : ℕ) → n ≤ s → bands_at after s ≡ bands_at before s

-- the bands of each feed are inside its limits
pub record AreFed (parts : FileParts) : Type 0 where
  pub fed : (tick f : ℕ) → f < length parts.feeds → AllInside (given_bands parts tick f) (limits_at parts f)
