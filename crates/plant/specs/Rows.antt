-- A row: the bands of a plant at one tick.
use Rattle.std.specs.Prelude.{List, ℕ, [], slice_index_or, slice_set, ◌≡◌, ◌<◌, length, map}
use Rattle.quant.specs.Interval.{Interval, AllInside}
use Rattle.flowsheet.specs.Plant.{unit_at}
use Rattle.flowsheet.specs.Reading.{on_bands, inputs_of, stepped}
use Rattle.flowsheet.specs.Run.{streams_at, run_states, run_streams}
use Rattle.parts.specs.Parts.{FileParts}
use Rattle.plant_streams.specs.Streams.{streams_of}
use Rattle.plant_streams.specs.Limits.{all_limits, limits_at}
use Rattle.plant_units.specs.Units.{units_of, opening_of}
use Rattle.plant.specs.PlantOf.{plant_of, carried_of}

-- the bands of each unit's states, and of each stream's channels
pub record RowBands : Type 0 where
  pub states : List (List Interval)
  pub streams : List (List Interval)

abbrev pub states_in : RowBands → ℕ → List Interval
states_in row u = slice_index_or row.states u []

abbrev pub stream_in : RowBands → ℕ → List Interval
stream_in row s = slice_index_or row.streams s []

-- the row with another band in one channel of a stream
abbrev pub set_band : RowBands → ℕ → ℕ → Interval → RowBands
set_band row s c band =
    record { states = row.states; streams = slice_set row.streams s (slice_set (stream_in row s) c band) }

-- the row with other bands in all channels of a stream
abbrev pub give_bands : RowBands → ℕ → List Interval → RowBands
give_bands row s bands = record { states = row.states; streams = slice_set row.streams s bands }

-- A row of the plant: a band for each state and each channel. The states and the feeds are inside their limits.
pub record IsRow (parts : FileParts) (row : RowBands) : Type 0 where
  pub counted : length row.states ≡ length (units_of parts)
  pub streams_counted : length row.streams ≡ length (streams_of parts)
  pub channels : (s : ℕ) → s < length (streams_of parts) → length (stream_in row s) ≡ length (limits_at parts s)
  pub states : (u : ℕ) → u < length (units_of parts) →
      AllInside (states_in row u) (unit_at (plant_of parts) u).state_limits
  pub feeds : (f : ℕ) → f < length parts.feeds → AllInside (stream_in row f) (limits_at parts f)

-- the row of the opening bands, in which each stream stands at its limits
abbrev pub opening_row : FileParts → RowBands
opening_row parts = record { states = map opening_of (units_of parts); streams = all_limits parts }

-- One tick of the interval run: each stream at this tick, from the feeds and the states in the row before, and each
-- state at the next tick.
pub record IsStep (parts : FileParts) (before after : RowBands) : Type 0 where
  pub streams : (s : ℕ) → s < length (streams_of parts) →
      stream_in after s ≡ streams_at (on_bands (plant_of parts)) (plant_of parts) (stream_in before)
      (states_in before) s
  pub states : (u : ℕ) → u < length (units_of parts) →
      states_in after u ≡ stepped (on_bands (plant_of parts)) (unit_at (plant_of parts) u) (states_in before u)
      (inputs_of (unit_at (plant_of parts) u)
      (streams_at (on_bands (plant_of parts)) (plant_of parts) (stream_in before) (states_in before)))

-- the interval run of the parts where these bands are given to the feeds, by tick and feed: the bands of each unit's states and of each
-- stream at a tick
abbrev pub states_of_run : FileParts → (ℕ → ℕ → List Interval) → ℕ → ℕ → List Interval
states_of_run parts given = run_states (on_bands (plant_of parts)) (plant_of parts) (carried_of parts) given

abbrev pub streams_of_run : FileParts → (ℕ → ℕ → List Interval) → ℕ → ℕ → List Interval
streams_of_run parts given = run_streams (on_bands (plant_of parts)) (plant_of parts) (carried_of parts) given

-- the row's states are the run's at this tick, and its feeds the given bands
abbrev pub HasStatesOf : FileParts → (ℕ → ℕ → List Interval) → ℕ → RowBands → Type 0
HasStatesOf parts given tick row = (u : ℕ) → u < length (units_of parts) → states_in row u ≡ states_of_run parts given tick u

abbrev pub HasFeedsOf : FileParts → (ℕ → ℕ → List Interval) → ℕ → RowBands → Type 0
HasFeedsOf parts given tick row = (f : ℕ) → f < length parts.feeds → stream_in row f ≡ given tick f

abbrev pub HasStreamsOf : FileParts → (ℕ → ℕ → List Interval) → ℕ → RowBands → Type 0
HasStreamsOf parts given tick row =
    (s : ℕ) → s < length (streams_of parts) → stream_in row s ≡ streams_of_run parts given tick s
