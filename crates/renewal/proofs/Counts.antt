-- A plan has few streams and few units, and no unit reads many streams.
use Rattle.std.proofs.Common.{◌≡◌, ℕ, zero, suc, ◌+◌, ◌<◌, ◌≤◌, List, [], ◌∷◌, length, refl, sym, ap, subst, get_or, arith}
use Rattle.std.specs.List.{AllByRecursion}
use Rattle.std.proofs.lemmas.List.{length-map}
use Rattle.quant.specs.declared.limits.Limits.{Limits}
use Rattle.flowsheet.specs.Plant.{PlantUnit}
use Rattle.parts.specs.Parts.{FileParts}
use Rattle.parts.specs.InRange.{IsKindPart, IsUnitPart}
use Rattle.parts.specs.declared.units.KindPart.{KindPart}
use Rattle.parts.specs.declared.units.KindPart.TheVariants as part
use Rattle.parts.specs.declared.units.UnitPart.{UnitPart}
use Rattle.plant_streams.specs.Streams.{streams_of, references_of, mixer_references, ports_of}
use Rattle.plant_streams.proofs.Counts.{few_streams}
use Rattle.plant_units.specs.declared.units.Unit.{Unit}
use Rattle.plant_units.specs.Units.{units_of, units_from, unit_from, made_unit, inputs_of, reads_of, sheet_unit}
use Rattle.plant.proofs.Lookups.{item, unit-is}
use Rattle.plant.proofs.Sources.{length-units_of}
use Rattle.renewal.specs.Plan.{PlanOf, IsPlan}
use Rattle.renewal.specs.Room.{planned}

pub streams-few : (plan : PlanOf) → IsPlan plan → length (streams_of plan.parts) ≤ 1024
streams-few plan h = few_streams plan.parts h.plant.ranges.feeds.0 h.plant.ranges.units.1

pub units-few : (plan : PlanOf) → IsPlan plan → length (units_of plan.parts) ≤ 256
units-few plan h = omega (arith, length-units_of plan.parts, h.plant.ranges.units.1)

-- what a made unit reads are its references' streams
made-reads : (name : List ℕ) (limits : Limits) (inputs outputs : List ℕ) (kind : KindPart) →
    reads_of (made_unit name limits inputs outputs kind) ≡ inputs
unfolding made_unit
made-reads name limits inputs outputs (part.Tank input valve k volume flow conc temp) = refl
made-reads name limits inputs outputs (part.Reactor input valve jacket k rate heat ua volume flow conc temp) = refl
made-reads name limits inputs outputs
    (part.Column liquid vapour stages holdup slope x liquid_flow liquid_temp vapour_flow vapour_temp) = refl
made-reads name limits inputs outputs (part.Controller set measured kp ki bias integral_limits integral out) = refl
made-reads name limits inputs outputs (part.Mixer input) = refl
made-reads name limits inputs outputs (part.Splitter input share) = refl

mixer-counted : (i : ℕ) (input : List (List ℕ)) → length (mixer_references i input) ≡ length input
mixer-counted i [] = refl
mixer-counted i (name ∷ input) = ap suc (mixer-counted (suc i) input)

few-references : (kind : KindPart) → IsKindPart kind → length (references_of kind) ≤ 8
unfolding references_of
few-references (part.Tank input valve k volume flow conc temp) h = omega arith
few-references (part.Reactor input valve jacket k rate heat ua volume flow conc temp) h = omega arith
few-references (part.Column liquid vapour stages holdup slope x liquid_flow liquid_temp vapour_flow vapour_temp) h = omega arith
few-references (part.Controller set measured kp ki bias integral_limits integral out) h = omega arith
few-references (part.Mixer input) h = omega (arith, mixer-counted 0 input, h.1)
few-references (part.Splitter input share) h = omega arith

few-made : (parts : FileParts) (first : ℕ) (unit : UnitPart) → IsUnitPart unit → length (reads_of (unit_from parts first unit)) ≤ 8
unfolding unit_from
few-made parts first unit h =
    let read : reads_of (unit_from parts first unit) ≡ inputs_of (streams_of parts) unit.kind
    = made-reads unit.name _ (inputs_of (streams_of parts) unit.kind) _ unit.kind in
    let counted : length (inputs_of (streams_of parts) unit.kind) ≡ length (references_of unit.kind)
    = length-map (references_of unit.kind) _ in
    omega (arith, ap length read, counted, few-references unit.kind h.kind)

few-from : (parts : FileParts) (first : ℕ) (units : List UnitPart) (u : ℕ) (x : Unit) → AllByRecursion IsUnitPart units →
    u < length (units_from parts first units) → length (reads_of (get_or (units_from parts first units) u x)) ≤ 8
few-from parts first [] u x h l = absurd (omega arith)
few-from parts first (unit ∷ units) zero x h l = few-made parts first unit h.0
few-from parts first (unit ∷ units) (suc u) x h l =
    few-from parts (first + length (ports_of unit.kind)) units u x h.1 (omega arith)

few-units : (parts : FileParts) (u : ℕ) (x : Unit) → AllByRecursion IsUnitPart parts.units → u < length (units_of parts) →
    length (reads_of (get_or (units_of parts) u x)) ≤ 8
unfolding units_of
few-units parts u x h l = few-from parts (length parts.feeds) parts.units u x h l

pub reads-few : (plan : PlanOf) (u : ℕ) → IsPlan plan → u < length (units_of plan.parts) → length (planned plan u).reads ≤ 8
unfolding sheet_unit
reads-few plan u h l =
    let x : Unit = item (units_of plan.parts) u l in
    subst (λ (v : PlantUnit). length v.reads ≤ 8) (sym (unit-is plan.parts u x l))
    (few-units plan.parts u x h.plant.ranges.units.2 l)
