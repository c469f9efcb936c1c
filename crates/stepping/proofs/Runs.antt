-- A plant that is stepped through the ticks of a plan's window makes its run's bands, tick by tick.
use Rattle.std.proofs.Common.{◌≡◌, ◌∙◌, ℕ, suc, ◌+◌, ◌-◌, ◌<◌, ◌≤◌, List, [], ◌++◌, length, get_or, inl, inr}
use Rattle.std.proofs.Common.{refl, sym, ap, subst, arith, Some, None, Result, Ok, Err, IfErr, IsErrAnd}
use Rattle.std.proofs.Common.{get_or-set_other}
use Rattle.std.proofs.lemmas.Bool.{cases_eq}
use Rattle.std.proofs.lemmas.Grind.{get_or-set_at}
use Rattle.std.proofs.lemmas.List.{get_or_default, length-map}
use Rattle.std.proofs.lemmas.List.FromFn.{get_or-map-range_with_len}
use Rattle.quant.specs.Interval.{Interval, AllInside}
use Rattle.quant.proofs.Calls.{inside-length}
use Rattle.flowsheet.specs.Reading.{on_bands}
use Rattle.flowsheet.specs.Run.{run_streams}
use Rattle.relaxation.specs.Tube.{Tube, at}
use Rattle.relaxation.specs.Window.{run_tube}
use Rattle.parts.specs.Parts.{FileParts}
use Rattle.plant_streams.specs.Limits.{limits_at}
use Rattle.plant_streams.specs.Streams.{streams_of}
use Rattle.plant_streams.proofs.Counts.{few_streams}
use Rattle.plant_units.specs.Units.{units_of}
use Rattle.plant.specs.PlantOf.{plant_of}
use Rattle.plant.specs.Rows.{RowBands, IsRow, IsStep, states_in, stream_in, give_bands}
use Rattle.plant.specs.Sound.{IsPlant}
use Rattle.plant.proofs.PlantLaws.{plant-sound, parts-ranked}
use Rattle.plant.proofs.Ticks.{streams-same, stepped-same}
use Rattle.tables.specs.Output.{rows_of, rows_from, tick_rows}
use Rattle.renewal.specs.Plan.{PlanOf, IsPlan, window_of, carried_into}
use Rattle.report.specs.Output.{labels_of}
use Rattle.report.proofs.Labels.{label_of}
use Rattle.report.proofs.Ticks.{rows-ticks, rows_from-same}
use Rattle.window_accept.specs.declared.wide.TooWide.{TooWide}
use Rattle.window_accept.specs.declared.end.WindowEnd.{WindowEnd}
use Rattle.window_accept.specs.declared.end.WindowEnd.TheVariants as ends
use Rattle.window_accept.specs.Session.{bands_of_plan}
use Rattle.window_accept.specs.Wide.{IsSooner, AreNarrowEnough, IsFirstWide}
use Rattle.window_accept.proofs.Following.{finds-alike}
use Rattle.stepping.specs.Stepping.{tube_at, bands_of_row, states_of_plan, AreFeedsAt, HaveFed, HasStepped, IsWideEnd, IsEndOf, IsPlanEnd}

pub streams-few : (parts : FileParts) → IsPlant parts → length (streams_of parts) ≤ 1024
streams-few parts plant = few_streams parts plant.ranges.feeds.0 plant.ranges.units.1

-- a tube that stands at a place
pub tube-is : (tubes : List Tube) (s : ℕ) (tube : Tube) → s < length tubes → tube ≡ get_or tubes s tube →
    tube ≡ tube_at tubes s
tube-is tubes s tube l e = e ∙ get_or_default tubes s tube [] l

-- the feeds come first among a row's streams
pub feed-there : (parts : FileParts) (row : RowBands) (f : ℕ) → IsPlant parts → IsRow parts row →
    f < length parts.feeds → f < length row.streams
feed-there parts row f plant r l = omega (arith, (plant-sound parts plant).feeds_counted f l, r.streams_counted)

pub feed-channels : (parts : FileParts) (row : RowBands) (feeds : List Tube) (t f : ℕ) → IsPlant parts →
    IsRow parts row →
    AreFeedsAt parts t feeds → f < length parts.feeds → length (at (tube_at feeds f) t) ≡ length (stream_in row f)
feed-channels parts row feeds t f plant r fed l =
    inside-length (at (tube_at feeds f) t) (limits_at parts f) (fed.inside f l)
    ∙ sym (r.channels f ((plant-sound parts plant).feeds_counted f l))

-- one feed more has its bands
pub fed-more : (parts : FileParts) (t f : ℕ) (feeds : List Tube) (before now after : RowBands)
    (bands : List Interval) →
    HaveFed parts t f feeds before now → f < length now.streams → bands ≡ at (tube_at feeds f) t →
    after ≡ give_bands now f bands → IsRow parts after → HaveFed parts t (f + 1) feeds before after
fed-more parts t f feeds before now after bands have there e is row = record {
  row = row;
  states = ap (λ (r : RowBands). r.states) is ∙ have.states;
  fed = λ g l m. ap (λ (r : RowBands). stream_in r g) is ∙ elim (cases_eq g f) [
    | inl d ↦ get_or-set_at now.streams f g bands [] d there ∙ e ∙ ap (λ h. at (tube_at feeds h) t) (sym d)
    | inr ne ↦ get_or-set_other now.streams f g bands [] ne ∙ have.fed g l (omega arith)
  ];
}

-- the streams that are printed are those that are there
pub labels-counted : (parts : FileParts) → length (labels_of parts) ≡ length (streams_of parts)
labels-counted parts = length-map (streams_of parts) label_of

sooner-tick : (a b : TooWide) → IsSooner a b → a.tick ≤ b.tick
sooner-tick a b sooner = elim sooner [ inl l ↦ omega (arith, l) | inr r ↦ omega (arith, r.0) ]

-- one tick more at which no band is wider than was asked, or the first at which one is
module _ (parts : FileParts) (bands : ℕ → ℕ → List Interval) (first t : ℕ) (narrow : AreNarrowEnough parts bands first t) where
  narrow-more : AreNarrowEnough parts bands (first + t) 1 → AreNarrowEnough parts bands first (t + 1)
  narrow-more here wide among is = elim (cases_eq wide.tick (first + t)) [
    | inl e ↦ here wide (omega (arith, e), omega (arith, e)) is
    | inr ne ↦ narrow wide (among.0, omega (arith, among.1, ne)) is
  ]

  first-more : (n : ℕ) (place : TooWide) → t < n → IsFirstWide parts bands (first + t) 1 place → IsFirstWide parts bands first n place
  first-more n place l h = record {
    among = (omega (arith, h.among.0), omega (arith, h.among.1));
    wide_is = h.wide_is;
    sooner = λ other among is sooner. elim (cases_eq other.tick (first + t)) [
      | inl e ↦ h.sooner other (omega (arith, e), omega (arith, e)) is sooner
      | inr ne ↦ narrow other (among.0, omega (arith, ne, sooner-tick other place sooner, h.among.1)) is
    ];
  }

-- an end that was answered on
pub told : {T : Type 0} (plan : PlanOf) (end : WindowEnd) (r : Result T WindowEnd) → IsErrAnd r (λ answered. answered ≡ end) →
    IsPlanEnd plan end → IfErr r (IsPlanEnd plan)
told plan end (Ok made) e h = absurd e
told plan end (Err answered) e h = subst (IsPlanEnd plan) (sym e) h

-- a tick of a plan's window
module _ (plan : PlanOf) (is : IsPlan plan) (t : ℕ) (among : t < plan.ticks) where
  pub feeds-at : AreFeedsAt plan.parts t plan.feeds
  feeds-at = record {
    counted = is.feeds;
    there = λ f l. omega (arith, is.ticked f l);
    inside = λ f l. (is.fed f t l among).inside;
  }

  -- the bands of the run
  bands-at : (s : ℕ) → at (run_tube (window_of plan) s) t
      ≡ run_streams (on_bands (plant_of plan.parts)) (plant_of plan.parts) (carried_into plan) (window_of plan).feeds t s
  bands-at s = get_or-map-range_with_len
      (λ q. run_streams (on_bands (plant_of plan.parts)) (plant_of plan.parts) (carried_into plan) (window_of plan).feeds q s)
      0 plan.ticks t t [] among (omega arith)

  module _ (row fed after : RowBands) (text : List ℕ) (have : HasStepped plan t row text)
      (given : HaveFed plan.parts t (length plan.parts.feeds) plan.feeds row fed) (step : IsStep plan.parts fed after) where
    states-are : (u : ℕ) → u < length (units_of plan.parts) → states_in fed u ≡ states_of_plan plan t u
    states-are u l = ap (λ (rows : List (List Interval)). get_or rows u []) given.states ∙ have.states u l

    feeds-are : (f : ℕ) → f < length plan.parts.feeds → stream_in fed f ≡ at (tube_at plan.feeds f) t
    feeds-are f l = given.fed f l l

    row-run : (s : ℕ) → s < length (streams_of plan.parts) → stream_in after s ≡ at (run_tube (window_of plan) s) t
    row-run s l = step.streams s l
        ∙ streams-same plan.parts (parts-ranked plan.parts is.plant) (stream_in fed) (states_in fed)
        (λ f. at (tube_at plan.feeds f) t) (states_of_plan plan t) feeds-are states-are s l
        ∙ sym (bands-at s)

    row-bands : (q s : ℕ) → plan.first + t ≡ q → s < length (streams_of plan.parts) → stream_in after s ≡ bands_of_plan plan q s
    row-bands q s e l = row-run s l ∙ ap (at (run_tube (window_of plan) s)) (let same : t ≡ q - plan.first = omega (arith, e) in same)

    -- lie in the limits
    pub row-limited : ((plan : PlanOf) (t s : ℕ) → IsPlan plan → t < plan.ticks → s < length (streams_of plan.parts) →
        AllInside (at (run_tube (window_of plan) s) t) (limits_at plan.parts s)) →
        (s : ℕ) → s < length (streams_of plan.parts) → AllInside (stream_in after s) (limits_at plan.parts s)
    row-limited law s l = subst (λ (bands : List Interval). AllInside bands (limits_at plan.parts s)) (sym (row-run s l))
        (law plan t s is among l)

    judged-alike : (q s : ℕ) → plan.first + t ≤ q → q < plan.first + t + 1 → s < length (streams_of plan.parts) →
        bands_of_row after q s ≡ bands_of_plan plan q s
    judged-alike q s m n l = row-bands q s (omega (arith, m, n)) l

    rows-more : (made : List ℕ) → made ≡ text ++ rows_from (plan.first + t) (stream_in after) 0 (labels_of plan.parts) →
        made ≡ rows_of (labels_of plan.parts) (bands_of_plan plan) plan.first (t + 1)
    rows-more made e =
        let labels = labels_of plan.parts in
        let bands = bands_of_plan plan in
        e
        ∙ ap (λ rows. text ++ rows) (rows_from-same (plan.first + t) (stream_in after) (bands (plan.first + t)) 0 labels
        (λ s l. row-bands (plan.first + t) s refl (omega (arith, l, labels-counted plan.parts))))
        ∙ ap (λ rows. rows ++ tick_rows labels bands (plan.first + t)) have.rows
        ∙ sym (rows-ticks labels bands plan.first t)
        ∙ ap (rows_of labels bands plan.first) (let next : suc t ≡ t + 1 = omega arith in next)

    -- and the window is stepped one tick further
    pub stepped-more : (made : List ℕ) → IsRow plan.parts after →
        made ≡ text ++ rows_from (plan.first + t) (stream_in after) 0 (labels_of plan.parts) →
        AreNarrowEnough plan.parts (bands_of_row after) (plan.first + t) 1 → HasStepped plan (t + 1) after made
    stepped-more made row-is e narrow = record {
      row_is = row-is;
      states = λ u l.
          step.states u l
          ∙ stepped-same plan.parts (parts-ranked plan.parts is.plant) (stream_in fed) (states_in fed)
          (λ f. at (tube_at plan.feeds f) t) (states_of_plan plan t) feeds-are states-are u l
          ∙ ap (λ k. states_of_plan plan k u) (let next : suc t ≡ t + 1 = omega arith in next);
      rows = rows-more made e;
      narrow = narrow-more plan.parts (bands_of_plan plan) plan.first t have.narrow
          (finds-alike None plan.parts (bands_of_row after) (bands_of_plan plan) (plan.first + t) 1 judged-alike narrow);
    }

    wide-run : (end : WindowEnd) → IsWideEnd plan.parts (bands_of_row after) (plan.first + t) 1 end →
        IsWideEnd plan.parts (bands_of_plan plan) plan.first plan.ticks end
    wide-run (ends.Wide place) h = first-more plan.parts (bands_of_plan plan) plan.first t have.narrow plan.ticks place among
        (finds-alike (Some place) plan.parts (bands_of_row after) (bands_of_plan plan) (plan.first + t) 1 judged-alike h)
    wide-run ends.Finished h = absurd h
    wide-run ends.NoMemory h = absurd h
    wide-run (ends.Feed fault) h = absurd h

    -- or ends there
    pub end-run : (end : WindowEnd) → IsEndOf plan.parts (bands_of_row after) (plan.first + t) 1 end → IsPlanEnd plan end
    end-run end h = elim h [ inl e ↦ inl e | inr wide ↦ inr (wide-run end wide) ]
