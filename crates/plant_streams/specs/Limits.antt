-- The limits of a plant, of its units and of the channels of its streams.
use Rattle.std.specs.Prelude.{ℕ, pos, Bool, List, [], ◌∷◌, map, unwrap_or, slice_index_or, if◌then◌else◌}
use Rattle.quant.specs.Interval.{Interval, point}
use Rattle.quant.specs.declared.limits.Limits.{Limits}
use Rattle.parts.specs.Parts.{FileParts}
use Rattle.parts.specs.InRange.{OwnLimits}
use Rattle.plant_streams.specs.declared.streams.Stream.{Stream}
use Rattle.plant_streams.specs.declared.streams.StreamSource.{StreamSource}
use Rattle.plant_streams.specs.declared.streams.StreamSource.TheVariants as source
use Rattle.plant_streams.specs.Streams.{streams_of}

-- a unit's own limits in place of the plant's
unfoldable pub limits_in : Limits → OwnLimits → Limits
limits_in limits own = record {
  flow = unwrap_or own.flow limits.flow;
  conc = unwrap_or own.conc limits.conc;
  temp = unwrap_or own.temp limits.temp;
  volume = unwrap_or own.volume limits.volume;
  signal = unwrap_or own.signal limits.signal;
}

-- the limits of the channels of a stream, by the limits of a plant or a unit
abbrev pub channel_limits : Limits → Bool → List Interval
channel_limits limits signal = if signal then limits.signal ∷ [] else limits.flow ∷ limits.conc ∷ limits.temp ∷ []

-- the limits of the unit with this number
abbrev pub unit_limits : FileParts → ℕ → Limits
unit_limits parts u =
    slice_index_or (map (λ unit_part. limits_in parts.limits unit_part.limits) parts.units) u parts.limits

-- the source of the stream with this number
abbrev pub source_at : FileParts → ℕ → StreamSource
source_at parts s = slice_index_or (map (λ stream. stream.source) (streams_of parts)) s (source.Feed 0)

-- the limits of a stream's channels: the plant's for a feed, its unit's for an output
abbrev pub source_limits : FileParts → StreamSource → Limits
source_limits parts (source.Feed f) = parts.limits
source_limits parts (source.Port u p) = unit_limits parts u

abbrev pub stream_limits : FileParts → Stream → List Interval
stream_limits parts stream = channel_limits (source_limits parts stream.source) stream.signal

-- the limits of each stream's channels
abbrev pub all_limits : FileParts → List (List Interval)
all_limits parts = map (stream_limits parts) (streams_of parts)

-- the limits of the channels of the stream with this number
abbrev pub limits_at : FileParts → ℕ → List Interval
limits_at parts s = slice_index_or (all_limits parts) s []

-- the limit of a channel of a stream
abbrev pub limit_at : FileParts → ℕ → ℕ → Interval
limit_at parts s c = slice_index_or (limits_at parts s) c (point (pos 0))
