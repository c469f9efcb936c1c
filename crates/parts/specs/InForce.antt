-- The piece of a feed's band that is in force at a tick.
use Rattle.std.specs.Prelude.{◌≡◌, ◌<◌, ◌≤◌, ℕ, suc, pos, List, length, map, slice_index, slice_index_or}
use Rattle.quant.specs.Interval.{Interval, point}
use Rattle.parts.specs.declared.feeds.Piece.{Piece}
use Rattle.parts.specs.declared.feeds.FeedBand.TheVariants as feed_band
use Rattle.parts.specs.Given.{band_at}

-- the tick at which a piece begins, and its band
abbrev pub begin_of : List Piece → ℕ → ℕ
begin_of pieces i = slice_index (map (λ piece. piece.tick) pieces) i

abbrev pub band_of : List Piece → ℕ → Interval
band_of pieces i = slice_index_or (map (λ piece. piece.band) pieces) i (point (pos 0))

-- the first piece begins at tick 0, and each other one after the one before it
pub record AreInOrder (pieces : List Piece) : Type 0 where
  pub one : 0 < length pieces
  pub first : begin_of pieces 0 ≡ 0
  pub rise : (i : ℕ) → suc i < length pieces → begin_of pieces i < begin_of pieces (suc i)

-- the piece has begun at the tick, and no later one has
pub record IsInForce (pieces : List Piece) (tick i : ℕ) : Type 0 where
  pub there : i < length pieces
  pub begun : begin_of pieces i ≤ tick
  pub last : (j : ℕ) → i < j → j < length pieces → tick < begin_of pieces j

-- at each tick a piece is in force, whose band is the band that is given
abbrev pub SomePieceIsInForce : Type 0
SomePieceIsInForce = (pieces : List Piece) (tick : ℕ) → AreInOrder pieces →
    (i : ℕ) × IsInForce pieces tick i × (band_at tick (feed_band.Pieces pieces) ≡ band_of pieces i)

-- a piece's band is given from its tick up to the next piece's, and that of the last piece from its tick on
abbrev pub PiecesLastUpToTheNext : Type 0
PiecesLastUpToTheNext = (pieces : List Piece) (tick i : ℕ) → AreInOrder pieces → i < length pieces →
    begin_of pieces i ≤ tick → (suc i < length pieces → tick < begin_of pieces (suc i)) →
    band_at tick (feed_band.Pieces pieces) ≡ band_of pieces i
