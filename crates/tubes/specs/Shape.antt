-- The shape of a tube, and its places.
use Rattle.std.specs.Prelude.{◌≡◌, ℕ, pos, length, map, slice_index_or, slice_set}
use Rattle.quant.specs.Interval.{Interval, point}
use Rattle.relaxation.specs.Tube.{Tube, at}

-- as many ticks, and at each as many channels
abbrev pub HasShapeOf : Tube → Tube → Type 0
HasShapeOf A B = map length A ≡ map length B

-- the band at a tick of a channel
abbrev pub band_at : Tube → ℕ → ℕ → Interval
band_at tube t c = slice_index_or (at tube t) c (point (pos 0))

-- the tube with another band at one place
abbrev pub set_at : Tube → ℕ → ℕ → Interval → Tube
set_at tube t c band = slice_set tube t (slice_set (at tube t) c band)
