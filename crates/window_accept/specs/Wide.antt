-- Bands that are wider than was asked.
use Rattle.std.specs.Prelude.{◌≡◌, ◌⊎◌, ℕ, ◌+◌, ◌<◌, ◌≤◌, ℤ, pos, ◌-ℤ◌, ◌<ℤ◌, Bool, false, List, [], ◌∷◌, length, map, slice_index_or}
use Rattle.std.specs.Prelude.{Option, Some, None, if◌then◌else◌}
use Rattle.quant.specs.Interval.{Interval, point}
use Rattle.flowsheet.specs.Plant.{origin_of}
use Rattle.parts.specs.Parts.{FileParts}
use Rattle.parts.specs.declared.parts.Widths.{Widths}
use Rattle.plant_streams.specs.Streams.{streams_of}
use Rattle.plant.specs.PlantOf.{plant_of}
use Rattle.relax_core.specs.Stepping.{IsOutputOf}
use Rattle.window_accept.specs.declared.wide.TooWide.{TooWide}

-- the widths that are asked for of the channels of a signal, or of a material stream
abbrev pub asked_of : Widths → Bool → List (Option ℤ)
asked_of width signal = if signal then width.signal ∷ [] else width.flow ∷ width.conc ∷ width.temp ∷ []

abbrev pub is_signal : FileParts → ℕ → Bool
is_signal parts s = slice_index_or (map (λ stream. stream.signal) (streams_of parts)) s false

-- the width that is asked for of a channel of a stream
abbrev pub asked_at : FileParts → ℕ → ℕ → Option ℤ
asked_at parts s c = slice_index_or (asked_of parts.width (is_signal parts s)) c None

abbrev pub width_of : Interval → ℤ
width_of band = band.hi -ℤ band.lo

-- At a tick of the plant, a channel of a stream that a unit gives is wider than was asked, for these bands of the streams.
pub record IsTooWide (parts : FileParts) (bands : ℕ → ℕ → List Interval) (wide : TooWide) : Type 0 where
  pub stream : wide.stream < length (streams_of parts)
  pub given : IsOutputOf (origin_of (plant_of parts) wide.stream)
  pub asked : asked_at parts wide.stream wide.channel ≡ Some wide.limit
  pub width : wide.width ≡ width_of (slice_index_or (bands wide.tick wide.stream) wide.channel (point (pos 0)))
  pub wider : wide.limit <ℤ wide.width

-- the place comes before the other: by tick, then by stream, then by channel
abbrev pub IsSooner : TooWide → TooWide → Type 0
IsSooner a b = (a.tick < b.tick) ⊎ ((a.tick ≡ b.tick)
    × ((a.stream < b.stream) ⊎ ((a.stream ≡ b.stream) × (a.channel < b.channel))))

-- its tick is one of n from a first one
abbrev pub IsAmong : ℕ → ℕ → TooWide → Type 0
IsAmong first n wide = (first ≤ wide.tick) × (wide.tick < first + n)

-- no band at n ticks from a first one is wider than was asked
abbrev pub AreNarrowEnough : FileParts → (ℕ → ℕ → List Interval) → ℕ → ℕ → Type 0
AreNarrowEnough parts bands first n = (wide : TooWide) → IsAmong first n wide → IsTooWide parts bands wide → ⊥

-- of the places at these ticks at which a band is wider than was asked, this is the first
pub record IsFirstWide (parts : FileParts) (bands : ℕ → ℕ → List Interval) (first n : ℕ) (wide : TooWide) : Type 0 where
  pub among : IsAmong first n wide
  pub wide_is : IsTooWide parts bands wide
  pub sooner : (other : TooWide) → IsAmong first n other → IsTooWide parts bands other → IsSooner other wide → ⊥

abbrev pub FindsWide : Option TooWide → FileParts → (ℕ → ℕ → List Interval) → ℕ → ℕ → Type 0
FindsWide None parts bands first n = AreNarrowEnough parts bands first n
FindsWide (Some wide) parts bands first n = IsFirstWide parts bands first n wide
