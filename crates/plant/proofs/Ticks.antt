-- Steps from the run's states and the given bands make the interval run.
use Rattle.std.proofs.Common.{ℕ, ◌<◌, length, Contains, arith, ◌≡◌, zero, suc, List, refl, ◌∙◌}
use Rattle.std.proofs.lemmas.List.{length-map}
use Rattle.quant.specs.Interval.{Interval}
use Rattle.flowsheet.specs.Plant.{unit_at, IsRanked}
use Rattle.flowsheet.specs.Reading.{on_bands, inputs_of, stepped}
use Rattle.flowsheet.specs.Run.{from_origin, streams_below, streams_at}
use Rattle.flowsheet.proofs.Readings.{same-kept, inputs-kept, shown-kept, stepped-kept}
use Rattle.parts.specs.Parts.{FileParts}
use Rattle.plant_streams.specs.Streams.{streams_of}
use Rattle.plant_units.specs.Units.{units_of, sheet_unit}
use Rattle.plant.specs.PlantOf.{origin_in, plant_of}
use Rattle.plant.proofs.Sources.{by-origin}
use Rattle.plant.specs.Rows.{RowBands, states_in, stream_in, IsStep, HasStatesOf, HasFeedsOf, HasStreamsOf}
use Rattle.plant.specs.Rows.{states_of_run}

-- a unit reads streams that are there
reads-there : (parts : FileParts) → IsRanked (plant_of parts) → (u q : ℕ) → u < length (units_of parts) →
    Contains (unit_at (plant_of parts) u).reads q → q < length (streams_of parts)
unfolding plant_of
reads-there parts ranked u q l c =
    let k : u < length (plant_of parts).units = omega (arith, length-map (units_of parts) sheet_unit) in
    let m : q < length (plant_of parts).streams = ranked.reads u q k c in
    omega (arith, length-map (streams_of parts) (λ stream. origin_in stream.source))

module _ (parts : FileParts) (ranked : IsRanked (plant_of parts)) (feeds states others bands : ℕ → List Interval)
    (fed : (f : ℕ) → f < length parts.feeds → feeds f ≡ others f)
    (held : (u : ℕ) → u < length (units_of parts) → states u ≡ bands u) where
  -- the streams of each rank are the same from the same feeds and states
  below-same : (r s : ℕ) → s < length (streams_of parts) →
      streams_below (on_bands (plant_of parts)) (plant_of parts) feeds states r s
      ≡ streams_below (on_bands (plant_of parts)) (plant_of parts) others bands r s
  below-same zero s l = refl
  below-same (suc r) s l =
      let read = on_bands (plant_of parts) in
      let plant = plant_of parts in
      let ins : ℕ → List Interval = λ u. inputs_of (unit_at plant u) (streams_below read plant feeds states r) in
      let outs : ℕ → List Interval = λ u. inputs_of (unit_at plant u) (streams_below read plant others bands r) in
      by-origin parts (λ o. from_origin read plant feeds states ins o ≡ from_origin read plant others bands outs o) fed
      (λ u p k m. shown-kept (same-kept read) (unit_at plant u) p _ _ _ _ (held u k)
      (λ i. inputs-kept (same-kept read) (unit_at plant u) _ _
      (λ q c. below-same r q (reads-there parts ranked u q k c))))
      s l

  -- so are all
  pub streams-same : (s : ℕ) → s < length (streams_of parts) →
      streams_at (on_bands (plant_of parts)) (plant_of parts) feeds states s
      ≡ streams_at (on_bands (plant_of parts)) (plant_of parts) others bands s
  streams-same s l = below-same (suc (plant_of parts).top) s l

  -- and each state at the next tick
  pub stepped-same : (u : ℕ) → u < length (units_of parts) →
      stepped (on_bands (plant_of parts)) (unit_at (plant_of parts) u) (states u)
      (inputs_of (unit_at (plant_of parts) u) (streams_at (on_bands (plant_of parts)) (plant_of parts) feeds states))
      ≡ stepped (on_bands (plant_of parts)) (unit_at (plant_of parts) u) (bands u)
      (inputs_of (unit_at (plant_of parts) u) (streams_at (on_bands (plant_of parts)) (plant_of parts) others bands))
  stepped-same u l =
      stepped-kept (same-kept (on_bands (plant_of parts))) (unit_at (plant_of parts) u) _ _ _ _ (held u l)
      (inputs-kept (same-kept (on_bands (plant_of parts))) (unit_at (plant_of parts) u) _ _
      (λ q c. streams-same q (reads-there parts ranked u q l c)))

pub next-streams : (parts : FileParts) (given : ℕ → ℕ → List Interval) (tick : ℕ) (before after : RowBands) →
    IsRanked (plant_of parts) → HasStatesOf parts given tick before → HasFeedsOf parts given tick before → IsStep parts before after →
    HasStreamsOf parts given tick after
next-streams parts given tick before after ranked held fed step s l =
    step.streams s l
    ∙ streams-same parts ranked (stream_in before) (states_in before) (given tick)
    (states_of_run parts given tick) fed
    held s l

pub next-states : (parts : FileParts) (given : ℕ → ℕ → List Interval) (tick : ℕ) (before after : RowBands) →
    IsRanked (plant_of parts) → HasStatesOf parts given tick before → HasFeedsOf parts given tick before → IsStep parts before after →
    HasStatesOf parts given (suc tick) after
next-states parts given tick before after ranked held fed step u l =
    step.states u l
    ∙ stepped-same parts ranked (stream_in before) (states_in before) (given tick)
    (states_of_run parts given tick) fed
    held u l
