-- Checks that run one after another.
use Rattle.std.proofs.Common.{◌≡◌, ℕ, ◌+◌, ◌<◌, List, length, get_or, drop, add-one, drop-cons, suc, [], ◌∷◌, map}
use Rattle.std.proofs.Common.{refl, ap, ◌++◌, codes, append_assoc, Ok, Err}
use Rattle.parts.specs.Parts.{FileParts}
use Rattle.parts.specs.declared.units.KindPart.{KindPart}
use Rattle.parts.specs.declared.units.KindPart.TheVariants as part
use Rattle.parts.specs.declared.units.UnitPart.{UnitPart}
use Rattle.plant_streams.specs.Streams.{streams_of, references_of}
use Rattle.plant_streams.specs.declared.streams.Stream.{Stream}
use Rattle.plant_checks.specs.Checks.{Checked, ◌>>◌, each, Fails, checked, column_kind_check, column_check}
use Rattle.plant_checks.specs.Checks.{source_check, port_check}
use Rattle.plant_checks.specs.declared.unit_checks.Wanted.{Wanted}
use Rattle.plant_checks.specs.declared.unit_checks.Wanted.TheVariants as wanted
use Rattle.plant_checks.specs.declared.fault.Unbuilt.{Unbuilt}
use Rattle.plant_checks.specs.declared.fault.Unbuilt.TheVariants as unbuilt
use Rattle.plant_checks.specs.Groups.{names_checked, references_checked, bands_checked, feeds_checked, units_checked}
use Rattle.plant_checks.specs.Seen.{column_kind_seen, column_seen, reference_refused, references_check}

-- the check of an item in reach, and then those of the items after it
pub goes_on : {A : Type 0} (check : ℕ → A → Checked) (items : List A) (i : ℕ) (x : A) → i < length items →
    x ≡ get_or items i x →
    each check i (drop i items) ≡ check i x >> each check (i + 1) (drop (i + 1) items)
goes_on check items i x within is = rw (add-one, drop-cons items i x, ← is)

-- what ends the check of an item ends the whole
pub ends : (end : Unbuilt) (here next : Checked) → Fails end here → Fails end (here >> next)
ends (unbuilt.Fault refusal) here next refused = rw refused
ends unbuilt.NoMemory here next _ = tt

-- checks of what items are seen as
pub each_map : {A B : Type 0} (check : ℕ → B → Checked) (view : A → B) (i : ℕ) (items : List A) →
    each check i (map view items) ≡ each (λ j x. check j (view x)) i items
each_map check view i [] = refl
each_map check view i (x ∷ rest) = ap (λ next. check i (view x) >> next) (each_map check view (suc i) rest)

-- what is wanted of the references of a unit is wanted of each
pub wanted_of_each : (asked : Wanted) (list : List Stream) (u : ℕ) (unit : UnitPart) →
    references_check asked list u unit ≡ each (λ i reference. reference_refused asked list u reference) 0
    (references_of unit.kind)
unfolding source_check port_check
wanted_of_each wanted.Source list u unit = refl
wanted_of_each wanted.FitForPort list u unit = refl

-- the place of a key with an index
pub indexed_place : (front key index : List ℕ) → (((front ++ key) ++ codes "[") ++ index) ++ codes "]" ≡ front
    ++ (((key ++ codes "[") ++ index) ++ codes "]")
indexed_place front key index = simp append_assoc

regrouped : (a b c : Checked) → (a >> b) >> c ≡ a >> (b >> c)
regrouped (Ok passed) b c = refl
regrouped (Err refusal) b c = refl

-- the groups one after another are all checks
pub checked_in_groups : (parts : FileParts) →
    checked parts ≡ names_checked parts
    >> (references_checked parts >> (bands_checked parts >> (feeds_checked parts >> units_checked parts)))
unfolding checked
checked_in_groups parts = simp regrouped

-- a column is checked by the streams of its parts
column_kind_alike : (parts : FileParts) (name : List ℕ) (kind : KindPart) →
    column_kind_seen parts (streams_of parts) name kind ≡ column_kind_check parts name kind
unfolding column_kind_check
column_kind_alike parts name (part.Tank input valve k volume flow conc temp) = refl
column_kind_alike parts name (part.Reactor input valve jacket k rate heat ua volume flow conc temp) = refl
column_kind_alike parts name
    (part.Column liquid vapour stages holdup slope x liquid_flow liquid_temp vapour_flow vapour_temp) = refl
column_kind_alike parts name (part.Controller set measured kp ki bias integral_limits integral out) = refl
column_kind_alike parts name (part.Mixer input) = refl
column_kind_alike parts name (part.Splitter input share) = refl

column_alike : (parts : FileParts) (u : ℕ) (unit : UnitPart) →
    column_seen parts (streams_of parts) u unit ≡ column_check parts u unit
unfolding column_check
column_alike parts u unit = column_kind_alike parts unit.name unit.kind

columns_from : (parts : FileParts) (u : ℕ) (units : List UnitPart) →
    each (column_seen parts (streams_of parts)) u units ≡ each (column_check parts) u units
columns_from parts u [] = refl
columns_from parts u (unit ∷ rest) = rw (column_alike parts u unit, columns_from parts (suc u) rest) refl

pub columns_alike : (parts : FileParts) (list : List Stream) (units : List UnitPart) → list ≡ streams_of parts →
    each (column_seen parts list) 0 units ≡ each (column_check parts) 0 units
columns_alike parts list units e = rw e (columns_from parts 0 units)
