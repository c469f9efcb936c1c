-- What is carried out of a window, and the limits of its run.
use Rattle.std.proofs.Common.{◌≡◌, ◌∙◌, ℕ, ◌<◌, ◌≤◌, ◌+◌, List, [], ◌∷◌, zero, suc, ◌++◌, length, map, take}
use Rattle.std.proofs.Common.{get_or, refl, sym, subst, ap, arith, zero-add}
use Rattle.std.specs.Prelude.{flat_map, slice_index_or}
use Rattle.std.specs.List.{AllByRecursion, range_with_len}
use Rattle.std.proofs.lemmas.List.{map_more}
use Rattle.std.proofs.lemmas.List.FromFn.{length-range_with_len, get_or-range_with_len, get_or-map-range_with_len}
use Rattle.quant.specs.Interval.{Interval, AllInside}
use Rattle.flowsheet.specs.Plant.{unit_at}
use Rattle.flowsheet.specs.Reading.{on_bands}
use Rattle.flowsheet.specs.Run.{run_states, run_streams}
use Rattle.flowsheet.proofs.Bands.{inside-wider}
use Rattle.flowsheet.proofs.Limits.{states-limited}
use Rattle.flowsheet.proofs.Readings.{same-kept}
use Rattle.flowsheet.proofs.Renewals.{states-renewed}
use Rattle.flowsheet.proofs.Runs.{states-bands}
use Rattle.relaxation.specs.Tube.{Tube, IsWithin, at}
use Rattle.relaxation.specs.Window.{row_of, run_tube}
use Rattle.relaxation.proofs.Ticks.{at-tube_of, length-tube_of, within-at}
use Rattle.plant_streams.specs.Streams.{streams_of}
use Rattle.plant_streams.specs.Limits.{limits_at}
use Rattle.plant_units.specs.Units.{units_of}
use Rattle.plant.specs.PlantOf.{plant_of}
use Rattle.plant.proofs.Lookups.{units-counted, streams-counted}
use Rattle.plant.proofs.PlantLaws.{parts-ranked}
use Rattle.plant.proofs.Sources.{length-units_of}
use Rattle.renewal.specs.Plan.{PlanOf, IsPlan, AreCarried, AreWithin, window_of, carried_into}
use Rattle.renewal.specs.Room.{planned, AreOpened, renewal_of}
use Rattle.renewal.specs.Carrying.{read_by, carried_from, states_after}
use Rattle.renewal.proofs.Givers.{some-giver, reads-are}
use Rattle.renewal.proofs.Openings.{opening-limited}
use Rattle.renewal.proofs.RoomShapes.{below-at}
use Rattle.renewal.proofs.Shapes.{same-ticks}
use Rattle.renewal.proofs.Windows.{is-open, limited, bands}

-- the tubes of some streams, and of one more
pub copied_more : (tubes : List Tube) (reads : List ℕ) (i : ℕ) (made : List Tube) (tube : Tube) → i < length reads →
    made ≡ map (λ s. slice_index_or tubes s []) (take i reads) → tube ≡ slice_index_or tubes (get_or reads i 0) [] →
    made ++ tube ∷ [] ≡ map (λ s. slice_index_or tubes s []) (take (i + 1) reads)
copied_more tubes reads i made tube l e d =
    ap (λ (front : List Tube). front ++ tube ∷ []) e
    ∙ ap (λ (next : Tube). map (λ s. slice_index_or tubes s []) (take i reads) ++ next ∷ []) d
    ∙ sym (map_more (λ s. slice_index_or tubes s []) reads i 0 l)

-- a tube for each of some streams, and each inside the one that its stream opens with
pub opened-counted : (plan : PlanOf) (streams : List ℕ) (tubes : List Tube) → AreOpened plan streams tubes →
    length tubes ≡ length streams
opened-counted plan [] [] o = refl
opened-counted plan [] (tube ∷ tubes) o = absurd o
opened-counted plan (s ∷ streams) [] o = absurd o
opened-counted plan (s ∷ streams) (tube ∷ tubes) o =
    let e : length tubes ≡ length streams = opened-counted plan streams tubes o.1 in omega arith

opened-at : (plan : PlanOf) (streams : List ℕ) (tubes : List Tube) (p : ℕ) → AreOpened plan streams tubes →
    p < length streams → IsWithin (slice_index_or tubes p []) ((window_of plan).opening (get_or streams p 0))
opened-at plan [] tubes p o l = absurd (omega arith)
opened-at plan (s ∷ streams) [] p o l = absurd o
opened-at plan (s ∷ streams) (tube ∷ tubes) zero o l = o.0
opened-at plan (s ∷ streams) (tube ∷ tubes) (suc p) o l = opened-at plan streams tubes p o.1 (omega arith)

module _ (plan : PlanOf) where
  abbrev streams : ℕ
  streams = length (streams_of plan.parts)

  module _ (tubes : List Tube) (o : AreOpened plan (range_with_len 0 streams) tubes) where
    pub all-counted : length tubes ≡ streams
    all-counted = opened-counted plan (range_with_len 0 streams) tubes o ∙ length-range_with_len 0 streams

    -- the stream that is read next is there
    pub next-there : {reads read : List ℕ} {i : ℕ} → AllByRecursion (λ s. s < streams) reads → read ≡ reads → i
        < length read →
        get_or read i 0 < length tubes
    next-there {read = read} {i = i} h e l = subst (λ (n : ℕ). get_or read i 0 < n) (sym all-counted)
        (below-at streams read i (subst (AllByRecursion (λ s. s < streams)) (sym e) h) l)

    -- so those that are read
    pub read-opened : (reads : List ℕ) → AllByRecursion (λ s. s < streams) reads →
        AreOpened plan reads (map (λ s. slice_index_or tubes s []) reads)
    read-opened [] h = tt
    read-opened (s ∷ reads) h = (
      subst (λ r. IsWithin (slice_index_or tubes s []) ((window_of plan).opening r)) (get_or-range_with_len 0
          streams s 0 h.0 ∙ zero-add s)
          (opened-at plan (range_with_len 0 streams) tubes s o (rw (length-range_with_len 0 streams) h.0)),
      read-opened reads h.1,
    )

  -- the bands that a unit's states end with
  abbrev pub carried_of : List Tube → ℕ → List Interval
  carried_of tubes u = at (renewal_of plan u (read_by plan u tubes)).states plan.ticks

  module _ (h : IsPlan plan) where
    pub units-few : length (units_of plan.parts) ≤ 256
    units-few = omega (arith, length-units_of plan.parts, h.plant.ranges.units.1)

    unit-counted : (u : ℕ) → u < length (units_of plan.parts) → u < length (plant_of plan.parts).units
    unit-counted u l = subst (λ n. u < n) (sym (units-counted plan.parts)) l

    stream-counted : (s : ℕ) → s < streams → s < length (plant_of plan.parts).streams
    stream-counted s l = subst (λ n. s < n) (sym (streams-counted plan.parts)) l

    -- the run lies in the limits of its streams' channels
    pub run-limited : (t s : ℕ) → t < plan.ticks → s < streams →
        AllInside (at (run_tube (window_of plan) s) t) (limits_at plan.parts s)
    run-limited t s m l = inside-wider _ (at ((window_of plan).opening s) t) (limits_at plan.parts s)
        (within-at _ _ t ((is-open plan h).holds s (stream-counted s l))) (opening-limited plan h s t l m)

    -- the tubes of the run have its inputs at each tick
    abbrev run_tubes : List Tube
    run_tubes = map (run_tube (window_of plan)) (range_with_len 0 streams)

    abbrev run_at : ℕ → ℕ → List Interval
    run_at = run_streams (on_bands (plant_of plan.parts)) (plant_of plan.parts) (carried_into plan) (window_of
        plan).feeds

    run-row : (t : ℕ) → t < plan.ticks → (reads : List ℕ) → AllByRecursion (λ s. s < streams) reads →
        flat_map (run_at t) reads ≡ row_of (map (λ s. slice_index_or run_tubes s []) reads) t
    run-row t m [] k = refl
    run-row t m (s ∷ reads) k =
        let found : slice_index_or run_tubes s [] ≡ run_tube (window_of plan) s =
        get_or-map-range_with_len (run_tube (window_of plan)) 0 streams s s [] k.0 (omega arith) in
        let here : at (slice_index_or run_tubes s []) t ≡ run_at t s =
        ap (λ (tube : Tube). at tube t) found ∙ at-tube_of (λ q. run_at q s) plan.ticks t m in
        ap (λ (row : List Interval). row ++ flat_map (run_at t) reads) (sym here)
        ∙ ap (λ (rows : List Interval). at (slice_index_or run_tubes s []) t ++ rows) (run-row t m reads k.1)

    -- so they carry on its states
    abbrev states_of : ℕ → List Interval
    states_of = run_states (on_bands (plant_of plan.parts)) (plant_of plan.parts) (carried_into plan)
        (window_of plan).feeds plan.ticks

    unit-carries : (u : ℕ) → u < length (units_of plan.parts) → carried_of run_tubes u ≡ states_of u
    unit-carries u l =
        let giver = some-giver plan u h l in
        let reads : AllByRecursion (λ s. s < streams) (planned plan u).reads =
        subst (AllByRecursion (λ s. s < streams)) (sym (reads-are plan u giver.0 giver.1)) giver.1.sound.reads in
        at-tube_of _ (plan.ticks + 1) plan.ticks (omega arith)
        ∙ sym (states-renewed (plant_of plan.parts) (carried_into plan) (window_of plan).feeds u (carried_into plan u)
        (row_of (read_by plan u run_tubes)) (same-kept (on_bands (plant_of plan.parts))) refl plan.ticks
        (λ q m. run-row q m (planned plan u).reads reads))

    pub run-carries : carried_from plan run_tubes ≡ states_after plan
    run-carries = same-ticks (carried_of run_tubes) states_of (length (units_of plan.parts)) unit-carries

    -- which have numbers in them and lie in their limits
    pub states-carried : AreCarried plan.parts (states_after plan)
    states-carried = record {
      counted = length-tube_of states_of (length (units_of plan.parts));
      within = λ u l. subst (λ (row : List Interval). AreWithin row (unit_at (plant_of plan.parts) u).state_limits)
          (sym (at-tube_of states_of (length (units_of plan.parts)) u l))
          (record {
            numbers = states-bands (plant_of plan.parts) (carried_into plan) (window_of plan).feeds plan.ticks
                (parts-ranked plan.parts h.plant) (bands plan h) plan.ticks u (omega arith) (unit-counted u l);
            inside = states-limited (plant_of plan.parts) (carried_into plan) (window_of plan).feeds plan.ticks
                (parts-ranked plan.parts h.plant) (bands plan h) (limited plan h) plan.ticks u (omega arith)
                (unit-counted u l);
          });
    }
