-- What stands at one place of a plant's units, its streams and their limits.
use Rattle.std.proofs.Common.{ℕ, ◌<◌, List, [], ◌∷◌, length, arith, ◌≡◌, map, get_or, sym, subst, ◌∙◌, zero, suc, ◌+◌}
use Rattle.std.proofs.Common.{add-zero, zero-add, refl, ap}
use Rattle.std.proofs.Math.ListN.{get_or-map}
use Rattle.std.proofs.lemmas.List.{get_or_default, length-map}
use Rattle.std.specs.Prelude.{slice_index_or}
use Rattle.flowsheet.specs.Plant as sheet
use Rattle.parts.specs.Parts.{FileParts}
use Rattle.plant_streams.specs.declared.streams.Stream.{Stream}
use Rattle.plant_streams.specs.declared.streams.StreamSource.TheVariants as source
use Rattle.plant_streams.specs.Streams.{streams_of}
use Rattle.plant_streams.specs.declared.streams.StreamSource.{StreamSource}
use Rattle.plant_streams.specs.Limits.{source_at}
use Rattle.plant_units.specs.declared.units.Unit.{Unit}
use Rattle.plant_units.specs.Units.{units_of, sheet_unit, gives_of}
use Rattle.plant.specs.Sound.{IsSoundUnit, AreSoundFrom, outputs_at, IsSource, ArePartsSound}
use Rattle.plant.specs.PlantOf.{plant_of, origin_in}
use Rattle.plant.proofs.Sources.{origin-at}

-- there is an item at each place of a list
pub item : {A : Type 0} (xs : List A) (n : ℕ) → n < length xs → A
item [] n h = absurd (omega arith)
item (x ∷ xs) n h = x

-- what a map gives at a place, at any default
pub at-map : {A B : Type 0} (f : A → B) (xs : List A) (n : ℕ) (x : A) (y : B) → n < length xs →
    slice_index_or (map f xs) n y ≡ f (get_or xs n x)
at-map f xs n x y h =
    get_or_default (map f xs) n y (f x) (subst (λ (k : ℕ). n < k) (sym (length-map xs f)) h) ∙ get_or-map f xs n x

-- the item that is found at a place
pub item-there : {A : Type 0} (n : ℕ) (x : A) (found xs : List A) → x ≡ get_or found n x → found ≡ xs →
    x ≡ get_or xs n x
item-there n x found xs is same = is ∙ ap (λ ys. get_or ys n x) same

-- a unit that stands at a place is sound there
sound_in-list : (parts : FileParts) (k : ℕ) (xs : List Unit) (u : ℕ) (x : Unit) → AreSoundFrom parts k xs →
    u < length xs →
    IsSoundUnit parts (k + u) (get_or xs u x)
sound_in-list parts k [] u x s h = absurd (omega arith)
sound_in-list parts k (y ∷ ys) zero x s h = rw add-zero s.0
sound_in-list parts k (y ∷ ys) (suc u) x s h =
    let e : suc k + u ≡ k + suc u = omega arith in
    subst (λ (n : ℕ). IsSoundUnit parts n (get_or ys u x)) e (sound_in-list parts (suc k) ys u x s.1 (omega arith))

pub sound-at : (parts : FileParts) (u : ℕ) (x : Unit) → AreSoundFrom parts 0 (units_of parts) →
    u < length (units_of parts) →
    IsSoundUnit parts u (get_or (units_of parts) u x)
sound-at parts u x s h =
    subst (λ (n : ℕ). IsSoundUnit parts n (get_or (units_of parts) u x)) (zero-add u)
    (sound_in-list parts 0 (units_of parts) u x s h)

-- the definitions' unit there
pub unit-is : (parts : FileParts) (u : ℕ) (x : Unit) → u < length (units_of parts) →
    sheet.unit_at (plant_of parts) u ≡ sheet_unit (get_or (units_of parts) u x)
unfolding plant_of
unit-is parts u x h = at-map sheet_unit (units_of parts) u x sheet.no_unit h

-- what it gives
pub outputs-are : (parts : FileParts) (u : ℕ) (x : Unit) → u < length (units_of parts) →
    outputs_at parts u ≡ gives_of (get_or (units_of parts) u x)
outputs-are parts u x h = at-map gives_of (units_of parts) u x [] h

pub units-counted : (parts : FileParts) → length (plant_of parts).units ≡ length (units_of parts)
unfolding plant_of
units-counted parts = length-map (units_of parts) sheet_unit

pub streams-counted : (parts : FileParts) → length (plant_of parts).streams ≡ length (streams_of parts)
unfolding plant_of
streams-counted parts = length-map (streams_of parts) (λ (stream : Stream). origin_in stream.source)

-- the definitions' origin of a stream
pub origin-is : (parts : FileParts) (s : ℕ) (src : StreamSource) → source_at parts s ≡ src →
    sheet.origin_of (plant_of parts) s ≡ origin_in src
unfolding plant_of
origin-is parts s src e = origin-at (streams_of parts) s ∙ ap origin_in e

-- the rank of a stream
pub rank-is : (parts : FileParts) (s : ℕ) (src : StreamSource) → source_at parts s ≡ src →
    sheet.rank_of (plant_of parts) s ≡ sheet.origin_rank (plant_of parts) (origin_in src)
rank-is parts s src e = ap (sheet.origin_rank (plant_of parts)) (origin-is parts s src e)

-- a stream comes from a feed, or from an output of a unit
pub data From (parts : FileParts) (s : ℕ) : Type 0 where
  from_feed : (f : ℕ) → source_at parts s ≡ source.Feed f → IsSource parts s (source.Feed f) → From parts s
  from_port : (u p : ℕ) → source_at parts s ≡ source.Port u p → IsSource parts s (source.Port u p) → From parts s

from-source : (parts : FileParts) (s : ℕ) (src : StreamSource) → source_at parts s ≡ src →
    IsSource parts s src → From parts s
from-source parts s (source.Feed f) e k = from_feed f e k
from-source parts s (source.Port u p) e k = from_port u p e k

pub from : (parts : FileParts) (s : ℕ) → ArePartsSound parts → s < length (streams_of parts) → From parts s
from parts s sound h = from-source parts s (source_at parts s) refl (sound.sources s h)
