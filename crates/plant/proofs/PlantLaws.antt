-- What the checks of a plant's parts give, and what a plant's parts are.
use Rattle.std.proofs.Common.{◌≡◌, ◌∙◌, ◌<◌, ℕ, List, [], Ok, length, get_or, refl, suc, sym, ap, subst}
use Rattle.std.specs.Prelude.{slice_index, slice_index_or}
use Rattle.quant.specs.Interval.{Interval, AllInside}
use Rattle.flowsheet.specs.Plant as sheet
use Rattle.flowsheet.specs.Plant.{IsRanked}
use Rattle.flowsheet.specs.Limited.{IsLimited, AreBands}
use Rattle.std.specs.List.{AllByRecursion}
use Rattle.plant.specs.Ordered.{AreOrdered}
use Rattle.plant.proofs.Pieces.{pieces-ordered}
use Rattle.parts.specs.Parts.{FileParts}
use Rattle.parts.specs.InRange.{AreInRange}
use Rattle.parts.specs.Given.{given_bands}
use Rattle.plant_streams.specs.declared.streams.StreamSource.TheVariants as source
use Rattle.plant_streams.specs.Streams.{streams_of}
use Rattle.plant_streams.specs.Limits.{source_at, limits_at}
use Rattle.plant_checks.specs.Checks.{checked, Checked}
use Rattle.plant_checks.proofs.Passed.{ArePassed, are-passed}
use Rattle.plant_units.specs.declared.units.Unit.{Unit}
use Rattle.plant_units.specs.Units.{units_of, sheet_unit, gives_of}
use Rattle.plant.specs.Sound.{ArePartsSound, AreSoundFrom, IsSource, IsOutput, IsPlant}
use Rattle.plant.proofs.Lookups.{item, sound-at, unit-is, outputs-are}
use Rattle.plant.proofs.OwnLimits.{stream-limits}
use Rattle.plant.proofs.Numbers.{feeds-first, feeds-there}
use Rattle.plant.proofs.Sources.{by-source, length-units_of}
use Rattle.plant.proofs.UnitLaws.{units-sound}
use Rattle.plant.proofs.UnitLinks.{units-linked}
use Rattle.plant.specs.Verdict.{IsVerdict}
use Rattle.plant.proofs.Verdicts.{one-verdict}
use Rattle.plant.proofs.Judgements.{some-verdict}
use Rattle.plant.specs.PlantOf.{plant_of, carried_of}
use Rattle.plant.proofs.Sheets.{all-ranked, all-limited, all-bands}
use Rattle.plant.proofs.Feeds.{given-inside}
use Rattle.plant.specs.Rows.{opening_row, HasStatesOf, RowBands, IsStep, HasFeedsOf, HasStreamsOf}
use Rattle.plant.proofs.Ticks.{next-streams, next-states}

pub parts-sound : (parts : FileParts) → AreInRange parts → checked parts ≡ Ok tt → ArePartsSound parts
parts-sound parts ranges passes =
    let p : ArePassed parts = are-passed parts passes in
    let units : AreSoundFrom parts 0 (units_of parts) = units-sound parts ranges p in
    let sources : (s : ℕ) → s < length (streams_of parts) → IsSource parts s (source_at parts s)
    = by-source parts (IsSource parts) (λ f l. (refl, l)) (λ u p l k. (l, k, refl)) in
    record {
      units = units;
      counted = length-units_of parts;
      feeds = feeds-first parts;
      feeds_counted = feeds-there parts;
      sources = sources;
      limits = λ s l. stream-limits parts (source_at parts s) ranges p;
      links = units-linked parts ranges sources units;
    }

pub verdict-unique : (parts : FileParts) (one other : Checked) → IsVerdict parts one →
    IsVerdict parts other → one ≡ other
verdict-unique = one-verdict

pub verdict-exists : (parts : FileParts) → (verdict : Checked) × IsVerdict parts verdict
verdict-exists = some-verdict

-- the parts of a plant are sound
pub plant-sound : (parts : FileParts) → IsPlant parts → ArePartsSound parts
plant-sound parts plant = parts-sound parts plant.ranges plant.passes

pub parts-ranked : (parts : FileParts) → IsPlant parts → IsRanked (plant_of parts)
parts-ranked parts plant = all-ranked parts (plant-sound parts plant) plant.ranked

pub parts-limited : (parts : FileParts) → IsPlant parts → IsLimited (plant_of parts) (carried_of parts)
parts-limited parts plant = all-limited parts (plant-sound parts plant)

pub parts-bands : (parts : FileParts) (n : ℕ) → IsPlant parts →
    AreBands (plant_of parts) (carried_of parts) (given_bands parts) n
parts-bands parts n plant = all-bands parts n plant.ranges (plant-sound parts plant)

pub parts-fed : (parts : FileParts) → IsPlant parts →
    (tick f : ℕ) → f < length parts.feeds → AllInside (given_bands parts tick f) (limits_at parts f)
parts-fed parts plant tick f l = given-inside parts plant.ranges (are-passed parts plant.passes) tick f l

pub parts-ordered : (parts : FileParts) → IsPlant parts → AllByRecursion (λ feed. AreOrdered feed.kind) parts.feeds
parts-ordered parts plant = pieces-ordered parts plant.ranges (are-passed parts plant.passes)

-- the limits of a unit's output are those of its stream
source-limits : (parts : FileParts) → IsPlant parts → (s u p : ℕ) → IsSource parts s (source.Port u p) →
    slice_index_or (sheet.unit_at (plant_of parts) u).output_limits p [] ≡ limits_at parts s
unfolding sheet_unit
source-limits parts plant s u p k =
    let sound = plant-sound parts plant in
    let x : Unit = item (units_of parts) u k.0 in
    let t = sound-at parts u x sound.units k.0 in
    let y : Unit = get_or (units_of parts) u x in
    let o = outputs-are parts u x k.0 in
    let l : p < length (gives_of y) = subst (λ (ns : List ℕ). p < length ns) o k.1 in
    let at : slice_index (gives_of y) p ≡ s = sym (ap (λ ns. slice_index ns p) o) ∙ k.2 in
    ap (λ (v : sheet.PlantUnit). slice_index_or v.output_limits p []) (unit-is parts u x k.0)
    ∙ sym (t.limits p l) ∙ ap (limits_at parts) at

pub port-limits : (parts : FileParts) (u p s : ℕ) → IsPlant parts → IsOutput parts u p s →
    slice_index_or (sheet.unit_at (plant_of parts) u).output_limits p [] ≡ limits_at parts s
port-limits parts u p s plant out =
    source-limits parts plant s u p (subst (IsSource parts s) out.1 ((plant-sound parts plant).sources s out.0))

pub opening-states : (parts : FileParts) (given : ℕ → ℕ → List Interval) → IsPlant parts →
    HasStatesOf parts given 0 (opening_row parts)
opening-states parts given plant u l = refl

pub step-streams : (parts : FileParts) (given : ℕ → ℕ → List Interval) (tick : ℕ) (before after : RowBands) →
    IsPlant parts → HasStatesOf parts given tick before → HasFeedsOf parts given tick before → IsStep parts before after →
    HasStreamsOf parts given tick after
step-streams parts given tick before after plant = next-streams parts given tick before after (parts-ranked parts plant)

pub step-states : (parts : FileParts) (given : ℕ → ℕ → List Interval) (tick : ℕ) (before after : RowBands) →
    IsPlant parts → HasStatesOf parts given tick before → HasFeedsOf parts given tick before → IsStep parts before after →
    HasStatesOf parts given (suc tick) after
step-states parts given tick before after plant = next-states parts given tick before after (parts-ranked parts plant)
