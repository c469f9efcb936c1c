-- Some ticks of a plant's run are a window plan, whose run is the plant's at these ticks.
use Rattle.std.proofs.Common.{◌≡◌, ◌∙◌, ℕ, ◌+◌, ◌<◌, ◌≤◌, List, [], length, map, sym, subst, ap, refl, arith}
use Rattle.std.specs.Prelude.{slice_index_or}
use Rattle.std.proofs.lemmas.List.{length-map}
use Rattle.std.proofs.lemmas.List.FromFn.{get_or-map-range_with_len, length-map-range_with_len, fill_by_all}
use Rattle.quant.specs.Interval.{Interval}
use Rattle.flowsheet.specs.Plant as sheet
use Rattle.flowsheet.specs.Reading.{on_bands}
use Rattle.flowsheet.specs.Run.{run_states}
use Rattle.flowsheet.specs.Limited.{AreBands}
use Rattle.flowsheet.proofs.Readings.{Same, same-kept}
use Rattle.flowsheet.proofs.Runs.{AreGiven, streams-related, states-related, states-bands}
use Rattle.flowsheet.proofs.Limits.{states-limited}
use Rattle.flowsheet.proofs.Joins.{joined_states, joined_streams}
use Rattle.relaxation.specs.Tube.{at, tube_of}
use Rattle.relaxation.specs.Window.{run_tube}
use Rattle.relaxation.proofs.Ticks.{at-tube_of, length-tube_of}
use Rattle.parts.specs.Parts.{FileParts}
use Rattle.parts.specs.Given.{given_bands}
use Rattle.plant_streams.specs.declared.streams.StreamSource.TheVariants as source
use Rattle.plant_streams.specs.Streams.{streams_of}
use Rattle.plant_streams.specs.Limits.{limits_at}
use Rattle.plant_units.specs.Units.{units_of, opening_of}
use Rattle.plant.specs.PlantOf.{plant_of, carried_of}
use Rattle.plant.specs.Rows.{states_of_run, streams_of_run}
use Rattle.plant.specs.Sound.{IsPlant}
use Rattle.plant.proofs.Lookups.{from, from_feed, from_port, origin-is, units-counted, streams-counted}
use Rattle.plant.proofs.PlantLaws.{plant-sound, parts-ranked, parts-limited, parts-bands, parts-fed}
use Rattle.renewal.specs.Plan.{PlanOf, IsPlan, AreCarried, AreWithin, carried_into, fed_by, window_of}
use Rattle.renewal.specs.Carrying.{states_after}
use Rattle.renewal.proofs.Shapes.{same-ticks}
use Rattle.feeds.specs.Given.{fed_tubes, run_plan}
use Rattle.feeds.specs.Reader.{AreFeedTubes}

-- a feed's tube
pub fed-is : (parts : FileParts) (given : ℕ → ℕ → List Interval) (first n f : ℕ) → f < length parts.feeds →
    slice_index_or (fed_tubes parts given first n) f [] ≡ tube_of (λ t. given (first + t) f) n
fed-is parts given first n f l = get_or-map-range_with_len (λ g. tube_of (λ t. given (first + t) g) n) 0
    (length parts.feeds) f f [] l (omega arith)

-- and what it has at a tick
pub fed-at : (parts : FileParts) (given : ℕ → ℕ → List Interval) (first n f t : ℕ) → f < length parts.feeds → t < n →
    at (slice_index_or (fed_tubes parts given first n) f []) t ≡ given (first + t) f
fed-at parts given first n f t l m = ap (λ tube. at tube t) (fed-is parts given first n f l)
    ∙ at-tube_of (λ q. given (first + q) f) n t m

-- bands that are given to the feeds lie in the limits, at each tick
abbrev pub StaysWithin : FileParts → (ℕ → ℕ → List Interval) → Type 0
StaysWithin parts given = (tick f : ℕ) → f < length parts.feeds → AreWithin (given tick f) (limits_at parts f)

-- so do their tubes
pub fed-within : (parts : FileParts) (given : ℕ → ℕ → List Interval) (first n : ℕ) → StaysWithin parts given →
    AreFeedTubes parts n (fed_tubes parts given first n)
fed-within parts given first n stays = record {
  counted = length-map-range_with_len (λ f. tube_of (λ t. given (first + t) f) n) 0 (length parts.feeds);
  ticks = λ f l. ap length (fed-is parts given first n f l) ∙ length-tube_of (λ t. given (first + t) f) n;
  within = λ f t l m. subst (λ (row : List Interval). AreWithin row (limits_at parts f))
      (sym (fed-at parts given first n f t l m)) (stays (first + t) f l);
}

-- the feed of an origin
abbrev feed-of : sheet.Origin → ℕ → ℕ
feed-of (sheet.feed f) e = f
feed-of (sheet.port u p) e = e

-- a stream that comes from a feed comes from one that is there
feed-there : (parts : FileParts) → IsPlant parts → (s f : ℕ) → s < length (plant_of parts).streams →
    sheet.origin_of (plant_of parts) s ≡ sheet.feed f → f < length parts.feeds
feed-there parts plant s f l o = elim (from parts s (plant-sound parts plant)
    (subst (λ n. s < n) (streams-counted parts) l)) [
      | from_feed g e k ↦
          subst (λ n. n < length parts.feeds)
          (ap (λ origin. feed-of origin 0) (sym (origin-is parts s (source.Feed g) e) ∙ o)) k.1
      | from_port u p e k ↦
          (let clash : sheet.port u p ≡ sheet.feed f = sym (origin-is parts s (source.Port u p) e) ∙ o in cc)
    ]

-- tubes in the limits can be planned, with whatever is carried in inside the limits
pub planned : (plan : PlanOf) → IsPlant plan.parts → 1 ≤ plan.ticks → plan.ticks ≤ 64 →
    plan.first + plan.ticks ≤ plan.parts.ticks → AreCarried plan.parts plan.carried →
    AreFeedTubes plan.parts plan.ticks plan.feeds → IsPlan plan
planned plan plant some few inside carried tubes = record {
  plant = plant;
  some = some;
  few = few;
  inside = inside;
  units = carried.counted;
  carried = carried.within;
  feeds = tubes.counted;
  ticked = tubes.ticks;
  fed = tubes.within;
}

-- the states of the run at the first tick are carried into each unit
carried-is : (parts : FileParts) (given : ℕ → ℕ → List Interval) (first n u : ℕ) → u < length (units_of parts) →
    carried_into (run_plan parts given first n) u ≡ states_of_run parts given first u
carried-is parts given first n u l =
    get_or-map-range_with_len (states_of_run parts given first) 0 (length (units_of parts)) u u [] l (omega arith)

-- the run starts from the opening bands
pub opening-is : (parts : FileParts) (given : ℕ → ℕ → List Interval) (n : ℕ) →
    (run_plan parts given 0 n).carried ≡ map opening_of (units_of parts)
opening-is parts given n = sym (fill_by_all (states_of_run parts given 0) (map opening_of (units_of parts))
    (length (units_of parts)) [] (length-map (units_of parts) opening_of) (λ u l. refl))

module _ (parts : FileParts) (given : ℕ → ℕ → List Interval) (plant : IsPlant parts) (stays : StaysWithin parts given)
    (first n : ℕ) where
  given-bands : (m : ℕ) → AreBands (plant_of parts) (carried_of parts) given m
  given-bands m = record {
    states = (parts-bands parts m plant).states;
    fed = λ t s f l k o. (stays t f (feed-there parts plant s f k o)).numbers;
  }

  -- the run's states are bands, inside their limits
  carried-within : (u : ℕ) → u < length (units_of parts) →
      AreWithin (carried_into (run_plan parts given first n) u) (sheet.unit_at (plant_of parts) u).state_limits
  carried-within u l =
      let there : u < length (plant_of parts).units = omega (arith, units-counted parts) in
      let ranked = parts-ranked parts plant in
      subst (λ (row : List Interval). AreWithin row (sheet.unit_at (plant_of parts) u).state_limits)
      (sym (carried-is parts given first n u l)) (record {
        numbers = states-bands (plant_of parts) (carried_of parts) given first ranked (given-bands first) first u
            (omega arith) there;
        inside = states-limited (plant_of parts) (carried_of parts) given first ranked (given-bands first)
            (parts-limited parts plant) first u (omega arith) there;
      })

  pub is-plan : 1 ≤ n → n ≤ 64 → first + n ≤ parts.ticks → IsPlan (run_plan parts given first n)
  is-plan some few inside = planned (run_plan parts given first n) plant some few inside (record {
    counted = length-map-range_with_len (states_of_run parts given first) 0 (length (units_of parts));
    within = carried-within;
  }) (fed-within parts given first n stays)

  -- the window starts from the run's states, and is fed what the plant is from the first tick on
  window-given : AreGiven Same (plant_of parts) n (carried_into (run_plan parts given first n))
      (λ t f. at (fed_by (run_plan parts given first n) f) t) (states_of_run parts given first)
      (λ t. given (first + t))
  window-given = record {
    states = λ u l. carried-is parts given first n u (subst (λ k. u < k) (units-counted parts) l);
    fed = λ t s f m l e. fed-at parts given first n f t (feed-there parts plant s f l e) m;
  }

  -- so its streams are the run's
  stream-is : (s t : ℕ) → s < length (streams_of parts) → t < n →
      at (run_tube (window_of (run_plan parts given first n)) s) t ≡ streams_of_run parts given (first + t) s
  stream-is s t l m = at-tube_of _ n t m
      ∙ (streams-related (plant_of parts) n (carried_into (run_plan parts given first n))
      (λ q f. at (fed_by (run_plan parts given first n) f) q) (states_of_run parts given first)
      (λ q. given (first + q)) (same-kept (on_bands (plant_of parts))) (parts-ranked parts plant)
      window-given t s m (subst (λ k. s < k) (sym (streams-counted parts)) l)
      ∙ ap (λ f. f s) (joined_streams (on_bands (plant_of parts)) (plant_of parts) (carried_of parts)
      given first t))

  pub run-is : (s : ℕ) → s < length (streams_of parts) →
      run_tube (window_of (run_plan parts given first n)) s ≡ tube_of (λ t. streams_of_run parts given (first + t) s) n
  run-is s l = fill_by_all (λ t. streams_of_run parts given (first + t) s)
      (run_tube (window_of (run_plan parts given first n)) s) n [] (length-tube_of _ n) (λ t m. stream-is s t l m)

  -- the states that a window of the run leaves are the run's
  states-left : (u : ℕ) → u < length (units_of parts) →
      run_states (on_bands (plant_of parts)) (plant_of parts) (carried_into (run_plan parts given first n))
      (window_of (run_plan parts given first n)).feeds n u ≡ states_of_run parts given (first + n) u
  states-left u l =
      states-related (plant_of parts) n (carried_into (run_plan parts given first n))
      (λ q f. at (fed_by (run_plan parts given first n) f) q) (states_of_run parts given first)
      (λ q. given (first + q)) (same-kept (on_bands (plant_of parts))) (parts-ranked parts plant)
      window-given n u (omega arith) (subst (λ k. u < k) (sym (units-counted parts)) l)
      ∙ ap (λ f. f u) (joined_states (on_bands (plant_of parts)) (plant_of parts) (carried_of parts) given first n)

  pub joined : (m : ℕ) → states_after (run_plan parts given first n) ≡ (run_plan parts given (first + n) m).carried
  joined m = same-ticks _ (states_of_run parts given (first + n)) (length (units_of parts)) states-left

-- what the plant file gives lies in the limits
pub file-within : (parts : FileParts) → IsPlant parts → StaysWithin parts (given_bands parts)
file-within parts plant tick f l =
    let sound = plant-sound parts plant in
    let there : f < length (plant_of parts).streams = omega (arith, streams-counted parts, sound.feeds_counted f l) in
    let origin = origin-is parts f (source.Feed f) (sound.feeds f l) in
    let bands = parts-bands parts (tick + 1) plant in
    record {
      numbers = bands.fed tick f f (omega arith) there origin;
      inside = parts-fed parts plant tick f l;
    }
