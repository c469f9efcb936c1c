-- The plants that are generated: trains of so many stages, each a mixer, a tank and a splitter that sends a part back
-- to the mixer. Each stage takes in what the one before it passes on, and the first the feed.
use Rattle.std.specs.Prelude.{ℕ, zero, suc, pos, ◌+◌, ◌*◌, List, [], ◌∷◌, ◌++◌, codes, decimal, None, flat_map}
use Rattle.std.specs.List.{range_with_len}
use Rattle.quant.specs.Interval.{point}
use Rattle.quant.specs.declared.limits.Limits.{Limits}
use Rattle.parts.specs.Parts.{FileParts}
use Rattle.parts.specs.InRange.{from_to, OwnLimits}
use Rattle.parts.specs.declared.parts.Widths.{Widths}
use Rattle.parts.specs.declared.feeds.Piece.{Piece}
use Rattle.parts.specs.declared.feeds.FeedBand.{FeedBand}
use Rattle.parts.specs.declared.feeds.FeedBand.TheVariants as feed_band
use Rattle.parts.specs.declared.feeds.FeedKind.TheVariants as feed_kind
use Rattle.parts.specs.declared.feeds.FeedPart.{FeedPart}
use Rattle.parts.specs.declared.units.KindPart.{KindPart}
use Rattle.parts.specs.declared.units.KindPart.TheVariants as part
use Rattle.parts.specs.declared.units.UnitPart.{UnitPart}

-- the most stages of a train
abbrev pub longest_train : ℕ
longest_train = 80

abbrev pub generated_limits : Limits
generated_limits = record {
  flow = from_to 0 100000;
  conc = from_to 0 100000;
  temp = from_to 0 1000000;
  volume = from_to 1 1000000;
  signal = from_to 0 1000000;
}

abbrev pub no_widths : Widths
no_widths = record { flow = None; conc = None; temp = None; signal = None }

-- one number at every tick, and a band from a tick on
abbrev pub always : ℕ → FeedBand
always n = feed_band.Constant (point (pos n))

abbrev pub from_tick : ℕ → ℕ → ℕ → Piece
from_tick tick lo hi = record { tick = tick; band = from_to lo hi }

-- the feed `f`, whose flow rises at tick 24, and the signal `v` for the valves
abbrev pub generated_feeds : List FeedPart
generated_feeds =
    record {
      name = codes "f";
      kind = feed_kind.Material (feed_band.Pieces (from_tick 0 90 110 ∷ from_tick 24 100 120 ∷ [])) (always 1000)
          (always 300000);
    }
    ∷ record { name = codes "v"; kind = feed_kind.Signal (always 1000000) } ∷ []

-- the names of the units of stage i, and the name of an output of a unit
abbrev pub mixer_name : ℕ → List ℕ
mixer_name i = codes "m" ++ decimal i

abbrev pub tank_name : ℕ → List ℕ
tank_name i = codes "t" ++ decimal i

abbrev pub splitter_name : ℕ → List ℕ
splitter_name i = codes "s" ++ decimal i

abbrev pub output_name : List ℕ → List ℕ → List ℕ
output_name unit port = unit ++ codes "." ++ port

-- what stage i takes in: the feed, or what the stage before it passes on
abbrev pub taken_in : ℕ → List ℕ
taken_in zero = codes "f"
taken_in (suc i) = output_name (splitter_name i) (codes "first")

-- a unit under the plant's limits alone
abbrev pub no_own_limits : OwnLimits
no_own_limits = record { flow = None; conc = None; temp = None; volume = None; signal = None }

abbrev pub unit_of : List ℕ → KindPart → UnitPart
unit_of name kind = record { name = name; kind = kind; limits = no_own_limits }

-- the units of stage i
abbrev pub mixer_of : ℕ → UnitPart
mixer_of i =
    unit_of (mixer_name i) (part.Mixer (taken_in i ∷ output_name (splitter_name i) (codes "second") ∷ []))

abbrev pub tank_of : ℕ → UnitPart
tank_of i =
    unit_of (tank_name i)
    (part.Tank (output_name (mixer_name i) (codes "out")) (codes "v") (pos 100000) (point (pos (1000 + 10 * i)))
    (point (pos (100 + i))) (point (pos 0)) (point (pos 310000)))

abbrev pub splitter_of : ℕ → UnitPart
splitter_of i = unit_of (splitter_name i) (part.Splitter (output_name (tank_name i) (codes "out")) (pos 900000))

abbrev pub stage_of : ℕ → List UnitPart
stage_of i = mixer_of i ∷ tank_of i ∷ splitter_of i ∷ []

-- the plant of n stages: 48 ticks in windows of 16
unfoldable pub generated_parts : ℕ → FileParts
generated_parts n = record {
  ticks = 48;
  window = 16;
  limits = generated_limits;
  width = no_widths;
  feeds = generated_feeds;
  units = flat_map stage_of (range_with_len 0 n);
}
