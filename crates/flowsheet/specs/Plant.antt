-- What a plant is: units, the streams between them, and the order of the units that act at once.
use Rattle.std.specs.Prelude.{◌≡◌, ℕ, suc, ◌<◌, max, Bool, true, false, List, [], length, fold, map, Contains, slice_index_or, slice_index}
use Rattle.quant.specs.Interval.{Interval}
use Rattle.quant.specs.Rounding.{Rounding}
use Rattle.quant.specs.Term.{Term}

-- where a stream comes from: the feed with this number, or a unit's output with this number
pub data Origin : Type 0 where
  feed : ℕ → Origin
  port : ℕ → ℕ → Origin

-- A unit. A register unit shows its states. An instant unit has no states, and shows what its inputs give at once.
pub record PlantUnit : Type 0 where
  pub instant : Bool
  -- the numbers of the streams that it reads, in the order of its input ports
  pub reads : List ℕ
  -- its states at the next tick
  pub next : List Term
  -- the channels of each of its outputs
  pub view : List (List Term)
  -- where its states and the channels of its outputs lie
  pub state_limits : List Interval
  pub output_limits : List (List Interval)

-- The feeds come first among the streams, and then the outputs of each unit in turn.
pub record Plant : Type 0 where
  pub units : List PlantUnit
  pub streams : List Origin
  -- of each unit, and the greatest
  pub ranks : List ℕ
  pub top : ℕ
  pub rounding : Rounding

-- a place for a unit or a stream that is not there
abbrev pub no_unit : PlantUnit
no_unit = record { instant = false; reads = []; next = []; view = []; state_limits = []; output_limits = [] }

abbrev pub unit_at : Plant → ℕ → PlantUnit
unit_at plant u = slice_index_or plant.units u no_unit

abbrev pub origin_of : Plant → ℕ → Origin
origin_of plant s = slice_index_or plant.streams s (feed 0)

-- feeds and the outputs of register units have rank 0, those of an instant unit have its rank
abbrev pub origin_rank : Plant → Origin → ℕ
origin_rank plant (feed f) = 0
origin_rank plant (port u p) = slice_index plant.ranks u

abbrev pub rank_of : Plant → ℕ → ℕ
rank_of plant s = origin_rank plant (origin_of plant s)

-- the origin is an output that the unit has
abbrev pub IsOrigin : Plant → Origin → Type 0
IsOrigin plant (feed f) = Unit {0}
IsOrigin plant (port u p) = (u < length plant.units) × (p < length (unit_at plant u).view)

-- Units read streams that are there, and streams come from units that are there. A register unit has rank 0. An instant
-- unit has 1 plus the greatest rank among the streams that it reads, so none reaches itself through instant units alone.
pub record IsRanked (plant : Plant) : Type 0 where
  pub counted : length plant.ranks ≡ length plant.units
  pub reads : (u s : ℕ) → u < length plant.units → Contains (unit_at plant u).reads s → s < length plant.streams
  pub origins : (s : ℕ) → s < length plant.streams → IsOrigin plant (origin_of plant s)
  pub registers : (u : ℕ) → u < length plant.units → (unit_at plant u).instant ≡ false → slice_index plant.ranks u ≡ 0
  pub instants : (u : ℕ) → u < length plant.units → (unit_at plant u).instant ≡ true →
      slice_index plant.ranks u ≡ suc (fold max 0 (map (rank_of plant) (unit_at plant u).reads))
  pub top : plant.top ≡ fold max 0 plant.ranks
