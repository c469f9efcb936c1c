-- Each channel of a stream has a band in the interval run, and so a row.
use Rattle.std.proofs.Common.{◌≡◌, ◌∙◌, ap, subst, refl, ℕ, zero, suc, ◌+◌, ◌<◌, Bool, true, false, List, [], ◌∷◌, length, map, arith}
use Rattle.std.specs.Prelude.{slice_index_or}
use Rattle.quant.specs.Interval.{Interval}
use Rattle.quant.specs.declared.limits.Limits.{Limits}
use Rattle.quant.proofs.Calls.{inside-length}
use Rattle.flowsheet.specs.Plant.{Origin, feed, port, origin_of}
use Rattle.flowsheet.specs.Limited.{AreBands}
use Rattle.flowsheet.specs.Reading.{on_bands}
use Rattle.flowsheet.proofs.Stages.{run-fed}
use Rattle.flowsheet.proofs.Limits.{stream-limited}
use Rattle.parts.specs.Parts.{FileParts}
use Rattle.plant_streams.specs.declared.streams.Stream.{Stream}
use Rattle.plant_streams.specs.declared.streams.StreamSource.TheVariants as source
use Rattle.plant_streams.specs.Streams.{streams_of}
use Rattle.plant.specs.PlantOf.{plant_of, carried_of}
use Rattle.plant_streams.specs.Limits.{channel_limits, stream_limits, source_limits}
use Rattle.plant.specs.Rows.{streams_of_run}
use Rattle.plant_streams.specs.Limits.{limits_at}
use Rattle.plant.specs.Sound.{IsPlant}
use Rattle.plant.proofs.Lookups.{from_feed, from_port, from, origin-is, streams-counted}
use Rattle.plant.proofs.Sources.{by-origin}
use Rattle.plant.proofs.PlantLaws.{plant-sound, port-limits, parts-ranked, parts-limited, parts-bands}
use Rattle.feeds.proofs.Windows.{StaysWithin}
use Rattle.tables.specs.Output.{channels}

-- a stream's origin that is a feed is one that is there
abbrev IsFed : FileParts → Origin → Type 0
IsFed parts (feed f) = f < length parts.feeds
IsFed parts (port u p) = Unit {0}

feed-there : (parts : FileParts) (s f : ℕ) → s < length (plant_of parts).streams → origin_of (plant_of parts) s ≡ feed f →
    f < length parts.feeds
feed-there parts s f l e = subst (IsFed parts) e
    (by-origin parts (IsFed parts) (λ g m. m) (λ u p m k. tt) s (subst (λ k. s < k) (streams-counted parts) l))

-- bands that can be given to the feeds, with the opening bands, have numbers in them
pub given-numbers : (parts : FileParts) (given : ℕ → ℕ → List Interval) → IsPlant parts → StaysWithin parts given → (n : ℕ) →
    AreBands (plant_of parts) (carried_of parts) given n
given-numbers parts given plant are n = record {
  states = (parts-bands parts n plant).states;
  fed = λ t s f m l e. (are t f (feed-there parts s f l e)).numbers;
}

run-limits : (parts : FileParts) (given : ℕ → ℕ → List Interval) → IsPlant parts → StaysWithin parts given → (tick s : ℕ) →
    s < length (streams_of parts) → length (streams_of_run parts given tick s) ≡ length (limits_at parts s)
run-limits parts given plant are tick s h = elim (from parts s (plant-sound parts plant) h) [
  | from_feed f e k ↦
      ap length (run-fed (on_bands (plant_of parts)) (plant_of parts) (carried_of parts) given tick s f
      (origin-is parts s (source.Feed f) e))
      ∙ inside-length _ _ (are tick f k.1).inside ∙ ap (λ q. length (limits_at parts q)) k.0
  | from_port u p e k ↦
      inside-length _ _ (stream-limited (plant_of parts) (carried_of parts) given (tick + 1)
      (parts-ranked parts plant) (given-numbers parts given plant are (tick + 1)) (parts-limited parts plant) tick s u p
      (omega arith) (omega (arith, streams-counted parts)) (origin-is parts s (source.Port u p) e))
      ∙ ap length (port-limits parts u p s plant (h, e))
]

-- a signal has one channel, a material stream three
channel-count : (limits : Limits) (signal : Bool) → length (channel_limits limits signal) ≡ length (channels signal)
unfolding channels
channel-count limits true = refl
channel-count limits false = refl

channels-counted : (parts : FileParts) (streams : List Stream) (s : ℕ) → s < length streams →
    length (slice_index_or (map (stream_limits parts) streams) s [])
    ≡ length (channels (slice_index_or (map (λ stream. stream.signal) streams) s false))
channels-counted parts [] s h = absurd (omega (arith, h))
channels-counted parts (stream ∷ rest) zero h = channel-count (source_limits parts stream.source) stream.signal
channels-counted parts (stream ∷ rest) (suc s) h = channels-counted parts rest s (omega (arith, h))

pub run-channels : (parts : FileParts) (given : ℕ → ℕ → List Interval) → IsPlant parts → StaysWithin parts given → (tick s : ℕ) →
    s < length (streams_of parts) →
    length (streams_of_run parts given tick s)
    ≡ length (channels (slice_index_or (map (λ stream. stream.signal) (streams_of parts)) s false))
run-channels parts given plant are tick s h =
    run-limits parts given plant are tick s h ∙ channels-counted parts (streams_of parts) s h
