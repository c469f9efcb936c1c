-- Words of the proofs: a reader of the contracts needs none of them.
-- The names, references, openings and columns that the code looks at, as the definitions see them.
use Rattle.std.specs.Borrow.{Bor}
use Rattle.std.specs.Prelude.{ℕ, ℤ, pos, List, Option, Some, None, Ok}
use Rattle.parts.specs.Parts.{FileParts}
use Rattle.parts.specs.declared.units.KindPart.{KindPart}
use Rattle.parts.specs.declared.units.KindPart.TheVariants as part
use Rattle.parts.specs.declared.units.UnitPart.{UnitPart}
use Rattle.plant_streams.specs.declared.streams.Stream.{Stream}
use Rattle.plant_streams.specs.Seen.{source_seen}
use Rattle.plant_streams.specs.Streams.{Reference, number_of, gives_signal}
use Rattle.plant_streams.specs.Limits.{source_limits}
use Rattle.plant_checks.specs.declared.openings.Opening.{Opening}
use Rattle.plant_checks.specs.declared.fault.PlantFault.TheVariants as fault
use Rattle.plant_checks.specs.Openings as openings
use Rattle.plant_checks.specs.declared.unit_checks.Wanted.{Wanted}
use Rattle.plant_checks.specs.declared.unit_checks.Wanted.TheVariants as wanted
use Rattle.plant_checks.specs.Checks.{Checked, refuse_if, is_too_fast, source_refused, source_check, port_refused, port_check}

abbrev pub name_seen : Bor (List ℕ) → List ℕ
name_seen name = name.now

-- what a reference has to name, by the check that is made
abbrev pub reference_refused : Wanted → List Stream → ℕ → Reference → Checked
reference_refused wanted.Source list u reference = source_refused u reference (number_of list reference.name)
reference_refused wanted.FitForPort list u reference =
    port_refused u reference (gives_signal list (number_of list reference.name))

abbrev pub references_check : Wanted → List Stream → ℕ → UnitPart → Checked
references_check wanted.Source = source_check
references_check wanted.FitForPort = port_check

abbrev pub opening_seen : Opening → openings.Opening
opening_seen opening = record { key = opening.key.now; band = opening.band; limits = opening.limits }

-- the greatest flow of a stream of a list, and the check of a column by it
abbrev pub flow_seen : FileParts → List Stream → Option ℕ → ℤ
flow_seen parts list None = pos 0
flow_seen parts list (Some s) = (source_limits parts (source_seen list s)).flow.hi

abbrev pub column_kind_seen : FileParts → List Stream → List ℕ → KindPart → Checked
column_kind_seen parts list name
    (part.Column liquid vapour stages holdup slope x liquid_flow liquid_temp vapour_flow vapour_temp) =
    refuse_if
    (is_too_fast holdup slope (flow_seen parts list (number_of list liquid))
    (flow_seen parts list (number_of list vapour)))
    (fault.ColumnTooFast name)
column_kind_seen parts list name _ = Ok tt

abbrev pub column_seen : FileParts → List Stream → ℕ → UnitPart → Checked
column_seen parts list u unit = column_kind_seen parts list unit.name unit.kind
