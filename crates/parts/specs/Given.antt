-- The bands that the feeds of a plant file give.
use Rattle.std.specs.Prelude.{ℕ, pos, nat_le, List, [], ◌∷◌, map, slice_index_or, if◌then◌else◌}
use Rattle.quant.specs.Interval.{Interval, point}
use Rattle.parts.specs.Parts.{FileParts}
use Rattle.parts.specs.declared.feeds.Piece.{Piece}
use Rattle.parts.specs.declared.feeds.FeedBand.{FeedBand}
use Rattle.parts.specs.declared.feeds.FeedBand.TheVariants as feed_band
use Rattle.parts.specs.declared.feeds.FeedKind.{FeedKind}
use Rattle.parts.specs.declared.feeds.FeedKind.TheVariants as feed_kind

-- the band of the last piece whose tick is not above this one, and this band where there is none
abbrev pub latest : ℕ → Interval → List Piece → Interval
latest tick band [] = band
latest tick band (piece ∷ rest) = latest tick (if nat_le piece.tick tick then piece.band else band) rest

-- a channel's band at a tick
unfoldable pub band_at : ℕ → FeedBand → Interval
band_at tick (feed_band.Constant band) = band
band_at tick (feed_band.Pieces pieces) = latest tick (point (pos 0)) pieces

-- the bands of a feed's channels at a tick
unfoldable pub kind_bands : ℕ → FeedKind → List Interval
kind_bands tick (feed_kind.Material flow conc temp) = band_at tick flow ∷ band_at tick conc ∷ band_at tick temp ∷ []
kind_bands tick (feed_kind.Signal value) = band_at tick value ∷ []

-- the bands of the feed with this number at a tick
abbrev pub given_bands : FileParts → ℕ → ℕ → List Interval
given_bands parts tick f = slice_index_or (map (λ feed. kind_bands tick feed.kind) parts.feeds) f []
