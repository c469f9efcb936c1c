-- One unit's part of a tick: what it shows, and what it steps to.
use Rattle.std.specs.Prelude.{ℕ, List, [], slice_index_or, flat_map, ◌∷◌, length, take, drop, slice_set, ◌≤◌, ◌<◌}
use Rattle.std.specs.Prelude.{if◌then◌else◌, ◌≡◌, true}
use Rattle.std.specs.List.{AllByRecursion}
use Rattle.quant.specs.Interval.{Interval, AllInside}
use Rattle.quant.specs.Ports.{outputs}
use Rattle.quant.specs.Rounding.{Floor}
use Rattle.quant.specs.Term.{intervals}
use Rattle.plant_units.specs.declared.units.Unit.{Unit}
use Rattle.plant_units.specs.Units.{output_limits_of, is_instant, view_of, next_of, reads_of, state_limits_of}
use Rattle.plant_units.specs.Units.{IsUnitSound, MayTake, gives_of}

-- the bands in one place of many
abbrev pub bands_at : List (List Interval) → ℕ → List Interval
bands_at rows n = slice_index_or rows n []

-- the channels of the streams with these numbers, one after another
abbrev pub gathered : List ℕ → List (List Interval) → List Interval
gathered numbers streams = flat_map (bands_at streams) numbers

-- the streams, with these bands in the channels of those with these numbers, one after another
abbrev pub spread : List ℕ → List Interval → List (List Interval) → List (List Interval)
spread [] bands streams = streams
spread (s ∷ rest) bands streams =
    spread rest (drop (length (bands_at streams s)) bands)
    (slice_set streams s (take (length (bands_at streams s)) bands))

-- there are such streams, and a band for each of their channels
abbrev pub HasRoom : List ℕ → List Interval → List (List Interval) → Type 0
HasRoom [] bands streams = Prim.Unit {0}
HasRoom (s ∷ rest) bands streams =
    (s < length streams) × (length (bands_at streams s) ≤ length bands)
    × HasRoom rest (drop (length (bands_at streams s)) bands)
    (slice_set streams s (take (length (bands_at streams s)) bands))

-- how many channels its outputs have
abbrev pub width_of : Unit → ℕ
width_of x = length (outputs (output_limits_of x))

-- what a unit shows, its outputs one after another: from its states, or from its inputs where it holds nothing back
unfoldable pub views : Unit → List Interval → List Interval → List Interval
views x state ins =
    intervals Floor (outputs (view_of x)) (if is_instant x then [] else state) (if is_instant x then ins else [])

-- its states at the next tick
unfoldable pub steps : Unit → List Interval → List Interval → List Interval
steps x state ins = intervals Floor (next_of x) state ins

-- a unit may show itself from these states and streams
pub record MayShow (x : Unit) (state : List Interval) (streams : List (List Interval)) : Type 0 where
  pub sound : IsUnitSound x
  pub states : AllInside state (state_limits_of x)
  pub known : AllByRecursion (λ s. s < length streams) (reads_of x)
  pub inputs : is_instant x ≡ true → MayTake x (gathered (reads_of x) streams)

-- the streams after it has
abbrev pub shows : Unit → List Interval → List (List Interval) → List (List Interval)
shows x state streams = spread (gives_of x) (views x state (gathered (reads_of x) streams)) streams

-- a unit may step from these states and streams
pub record MayStep (x : Unit) (state : List Interval) (streams : List (List Interval)) : Type 0 where
  pub sound : IsUnitSound x
  pub states : AllInside state (state_limits_of x)
  pub known : AllByRecursion (λ s. s < length streams) (reads_of x)
  pub inputs : MayTake x (gathered (reads_of x) streams)
