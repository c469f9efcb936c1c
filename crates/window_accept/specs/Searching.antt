-- Words of the proofs: a reader of the contracts needs none of them.
-- A search for a band that is wider than was asked: along the channels of a row, and along the streams of a tick.
use Rattle.std.specs.Prelude.{◌≡◌, ℕ, ◌<◌, ℤ, pos, ◌<ℤ◌, List, [], length, slice_index_or, Option, Some, None}
use Rattle.quant.specs.Interval.{Interval, AllInside, IsInside, point, wide}
use Rattle.relaxation.specs.Tube.{at}
use Rattle.parts.specs.Parts.{FileParts}
use Rattle.parts.specs.declared.parts.Widths.{Widths}
use Rattle.plant_streams.specs.Streams.{streams_of}
use Rattle.plant_streams.specs.Limits.{limits_at}
use Rattle.plant.specs.Sound.{IsPlant}
use Rattle.relax_core.specs.Settled.{WindowOf, IsWindow}
use Rattle.window_accept.specs.declared.channels.WideChannel.{WideChannel}
use Rattle.window_accept.specs.declared.wide.TooWide.{TooWide}
use Rattle.window_accept.specs.Wide.{IsTooWide, width_of}

-- no width is asked for
pub record AsksForNone (width : Widths) : Type 0 where
  pub flow : width.flow ≡ None
  pub conc : width.conc ≡ None
  pub temp : width.temp ≡ None
  pub signal : width.signal ≡ None

-- each band of a row is one of wide numbers
abbrev pub AreWide : List Interval → Type 0
AreWide row = (c : ℕ) → c < length row → IsInside (slice_index_or row c (point (pos 0))) wide

-- a band of a row is wider than is asked for its channel
pub record IsWideChannel (asked : List (Option ℤ)) (row : List Interval) (found : WideChannel) : Type 0 where
  pub asked_is : slice_index_or asked found.channel None ≡ Some found.limit
  pub width : found.width ≡ width_of (slice_index_or row found.channel (point (pos 0)))
  pub wider : found.limit <ℤ found.width

-- no channel below this one has such a band
abbrev pub AreNarrowBelow : List (Option ℤ) → List Interval → ℕ → Type 0
AreNarrowBelow asked row c = (other : WideChannel) → other.channel < c → IsWideChannel asked row other → ⊥

-- no channel has one, or this is the first
abbrev pub FindsChannel : Option WideChannel → List (Option ℤ) → List Interval → Type 0
FindsChannel None asked row = (other : WideChannel) → IsWideChannel asked row other → ⊥
FindsChannel (Some found) asked row = IsWideChannel asked row found × AreNarrowBelow asked row found.channel

-- a window of a built plant, whose bands lie in their limits
pub record IsInLimits (parts : FileParts) (window : WindowOf) : Type 0 where
  pub plant : IsPlant parts
  pub window_is : IsWindow parts window
  pub limits : (t s : ℕ) → t < window.ticks → s < length (streams_of parts) →
      AllInside (at (slice_index_or window.tubes s []) t) (limits_at parts s)

-- a channel of this stream is wider than was asked at this tick of the plant
pub record IsTooWideAt (parts : FileParts) (bands : ℕ → ℕ → List Interval) (t s : ℕ) (place : TooWide) : Type 0 where
  pub tick : place.tick ≡ t
  pub stream : place.stream ≡ s
  pub wide_is : IsTooWide parts bands place

-- no channel of this stream is, or this is the first
abbrev pub FindsInStream : Option TooWide → FileParts → (ℕ → ℕ → List Interval) → ℕ → ℕ → Type 0
FindsInStream None parts bands t s = (other : TooWide) → IsTooWideAt parts bands t s other → ⊥
FindsInStream (Some place) parts bands t s = IsTooWideAt parts bands t s place
    × ((other : TooWide) → IsTooWideAt parts bands t s other → other.channel < place.channel → ⊥)
