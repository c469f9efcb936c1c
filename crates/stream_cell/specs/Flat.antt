-- Words of the proofs: a reader of the contracts needs none of them.
-- How versions are kept: their heads in one list, and the bands of their tubes, one after another, in another.
use Rattle.std.specs.Prelude.{◌≡◌, ℕ, ◌+◌, ◌*◌, ◌<◌, ◌≤◌, List, [], ◌∷◌, ◌++◌, length, map, take, drop}
use Rattle.quant.specs.Interval.{Interval}
use Rattle.relaxation.specs.Tube.{Tube}
use Rattle.relaxation.specs.History.{Version, History}
use Rattle.stream_cell.specs.declared.head.Head.{Head}
use Rattle.stream_cell.specs.Histories.{newest}

-- the bands of each tick, one after another
abbrev pub flat : Tube → List Interval
flat [] = []
flat (row ∷ rows) = row ++ flat rows

-- how many bands a tube of this shape has
abbrev pub size : List ℕ → ℕ
size [] = 0
size (c ∷ shape) = c + size shape

-- a tube of this shape from the first of the bands
abbrev pub cut_by : List ℕ → List Interval → Tube
cut_by [] bands = []
cut_by (c ∷ shape) bands = take c bands ∷ cut_by shape (drop c bands)

abbrev pub headed : Head → Tube → Version
headed head tube =
    record { number = head.number; maker = head.maker; stamp = head.stamp; refs = head.refs; tube = tube }

-- the versions with these heads, whose tubes have this shape
abbrev pub versions : List ℕ → List Head → List Interval → History
versions shape [] bands = []
versions shape (head ∷ heads) bands = headed head (cut_by shape bands) ∷ versions shape heads (drop (size shape) bands)

-- What is kept beside the versions is right: the last one's tube, a tube to meet in, and room for 33 versions.
pub record IsKept (heads : List Head) (bands : List Interval) (tube spare : Tube) (most_heads most_bands : ℕ) : Type 0 where
  pub counted : length bands ≡ length heads * size (map length tube)
  pub some : 0 < length heads
  pub last : (newest (versions (map length tube) heads bands)).tube ≡ tube
  pub next : map length spare ≡ map length tube
  pub few : length heads ≤ 33
  pub head_room : 33 ≤ most_heads
  pub band_room : 33 * size (map length tube) ≤ most_bands

-- the rows before this tick are copied, those behind it are as they were, and these bands are left
pub record IsCopied (bands : List Interval) (old now : Tube) (tick : ℕ) (rest : List Interval) : Type 0 where
  pub left : rest ≡ drop (size (take tick (map length old))) bands
  pub rows : now ≡ take tick (cut_by (map length old) bands) ++ drop tick old
