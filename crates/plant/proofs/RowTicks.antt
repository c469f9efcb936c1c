-- One tick: what all units have shown and stepped is the interval run's next row.
use Rattle.std.proofs.Common.{List, arith, length, ◌∙◌, sym, subst, ap}
use Rattle.quant.specs.Interval.{Interval, AllInside}
use Rattle.flowsheet.specs.Plant as sheet
use Rattle.flowsheet.specs.Reading.{on_bands, stepped}
use Rattle.flowsheet.proofs.Readings.{same-kept, inputs-kept}
use Rattle.parts.specs.Parts.{FileParts}
use Rattle.plant_streams.specs.Limits.{limits_at}
use Rattle.plant_units.specs.Units.{units_of}
use Rattle.plant_units.specs.Steps.{bands_at}
use Rattle.plant.specs.Steps.{AreStates, AreShown, AreStreams, HaveStepped, run_at}
use Rattle.plant.specs.PlantOf.{plant_of}
use Rattle.plant.proofs.Lookups.{units-counted, streams-counted}
use Rattle.plant.specs.Rows.{IsRow, RowBands, IsStep}
use Rattle.plant.specs.Sound.{ArePartsSound}
use Rattle.plant.proofs.Rounds.{run-inside}

-- the states of a row
pub states-of-row : (parts : FileParts) (states streams : List (List Interval)) →
    IsRow parts (record { states = states; streams = streams }) → AreStates parts states
states-of-row parts states streams row = record { counted = row.counted; inside = row.states }

-- after all units have shown themselves each stream is inside its limits
pub streams-after : (parts : FileParts) (states before after : List (List Interval)) → ArePartsSound parts →
    sheet.IsRanked (plant_of parts) →
    IsRow parts (record { states = states; streams = before }) → AreShown parts states before after →
    AreStreams parts after
streams-after parts states before after sound ranked row have = record {
  counted = have.row.streams_counted;
  inside = λ s h.
      subst (λ (bands : List Interval). AllInside bands (limits_at parts s)) (sym (have.shown s h))
      (run-inside parts states before sound ranked row s h);
}

-- the row after the tick
pub row-of-tick : (parts : FileParts) (before after : RowBands) →
    AreShown parts before.states before.streams after.streams →
    HaveStepped parts (length (units_of parts)) after.streams before.states after.states → IsRow parts after
row-of-tick parts before after shown steps = record {
  counted = steps.states.counted;
  streams_counted = shown.row.streams_counted;
  channels = shown.row.channels;
  states = steps.states.inside;
  feeds = shown.row.feeds;
}

pub step-of-tick : (parts : FileParts) (before after : RowBands) → sheet.IsRanked (plant_of parts) →
    AreShown parts before.states before.streams after.streams →
    HaveStepped parts (length (units_of parts)) after.streams before.states after.states → IsStep parts before after
step-of-tick parts before after ranked shown steps = record {
  streams = λ s h. shown.shown s h;
  states = λ u h.
      let plant = plant_of parts in
      steps.stepped u h h
      ∙ ap (λ (ins : List Interval). stepped (on_bands plant) (sheet.unit_at plant u) (bands_at before.states u) ins)
      (inputs-kept (same-kept (on_bands plant)) (sheet.unit_at plant u) (bands_at after.streams)
      (run_at parts before.states before.streams)
      (λ q c. shown.shown q
      (omega (arith, ranked.reads u q (omega (arith, units-counted parts)) c, streams-counted parts))));
}
