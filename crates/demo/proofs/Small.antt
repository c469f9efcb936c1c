-- The rows of a plant's interval run are small.
use Rattle.std.proofs.Common.{◌≡◌, ◌∙◌, ℕ, zero, suc, ◌+◌, ◌<◌, ◌≤◌, Bool, true, false, List, [], ◌∷◌, length, get_or, refl, sym, ap, subst, arith, None}
use Rattle.std.specs.List.{AllByRecursion}
use Rattle.quant.specs.Interval.{Interval, AllBands, AllInside}
use Rattle.quant.proofs.Calls.{inside-length}
use Rattle.flowsheet.proofs.Runs.{streams-bands}
use Rattle.relaxation.specs.Tube.{at}
use Rattle.relaxation.proofs.Ticks.{at-tube_of}
use Rattle.parts.specs.Parts.{FileParts}
use Rattle.parts.specs.declared.parts.Widths.{Widths}
use Rattle.plant_streams.specs.declared.streams.Stream.{Stream}
use Rattle.plant_streams.specs.declared.streams.StreamSource.TheVariants as source
use Rattle.plant_streams.specs.Streams.{streams_of}
use Rattle.plant_streams.specs.Limits.{limits_at}
use Rattle.plant.specs.PlantOf.{plant_of, carried_of}
use Rattle.plant.specs.Rows.{streams_of_run}
use Rattle.plant.specs.Sound.{IsPlant}
use Rattle.plant.proofs.Lookups.{streams-counted}
use Rattle.plant.proofs.PlantLaws.{parts-ranked, parts-bands}
use Rattle.renewal.specs.Plan.{IsPlan}
use Rattle.renewal.proofs.Carrying.{run-limited}
use Rattle.feeds.specs.Given.{given_by, run_plan}
use Rattle.feeds.proofs.Windows.{is-plan, run-is}
use Rattle.feeds.proofs.Limits.{given-within}
use Rattle.relax_core.specs.Settled.{WindowOf}
use Rattle.window_accept.specs.Searching.{AreWide}
use Rattle.window_accept.specs.Wide.{asked_of}
use Rattle.window_accept.specs.Session.{HasRunAt}
use Rattle.window_accept.proofs.Streams.{row-wide, limits-counted}
use Rattle.demo.specs.Adding.{IsWideBand, IsSmallRow, IsSmallWindow}
use Rattle.demo.specs.Following.{IsSmallPlant}

-- bands that are wide numbers
wide-bands : (row : List Interval) → AllBands row → AreWide row → AllByRecursion IsWideBand row
wide-bands [] bands are = tt
wide-bands (band ∷ row) bands are = (
  record { ordered = bands.0; inside = are zero (omega arith) },
  wide-bands row bands.1 (λ c l. are (suc c) (omega (arith, l))),
)

few-asked : (widths : Widths) (signal : Bool) → length (asked_of widths signal) ≤ 3
few-asked widths true = omega arith
few-asked widths false = omega arith

module _ (parts : FileParts) (plant : IsPlant parts) (t s : ℕ) (inside : t < parts.ticks) (there : s < length (streams_of parts)) where
  abbrev row : List Interval
  row = streams_of_run parts (given_by parts None) t s

  row-bands : AllBands row
  row-bands = streams-bands (plant_of parts) (carried_of parts) (given_by parts None) (t + 1) (parts-ranked parts plant)
      (parts-bands parts (t + 1) plant) t s (omega arith) (omega (arith, streams-counted parts))

  row-limited : AllInside row (limits_at parts s)
  row-limited =
      let given = given_by parts None in
      let stays = given-within parts None plant in
      let planned : IsPlan (run_plan parts given t 1) = is-plan parts given plant stays t 1 (omega arith) (omega arith) (omega arith) in
      subst (λ (bands : List Interval). AllInside bands (limits_at parts s))
      (ap (λ tube. at tube 0) (run-is parts given plant stays t 1 s there)
      ∙ (at-tube_of (λ q. streams_of_run parts given (t + q) s) 1 0 (omega arith)
      ∙ ap (λ q. streams_of_run parts given q s) (let e : t + 0 ≡ t = omega arith in e)))
      (run-limited (run_plan parts given t 1) planned 0 s (omega arith) there)

  pub run-small : IsSmallRow row
  run-small =
      let stream : Stream = record { name = []; signal = false; source = source.Feed 0 } in
      record {
        few = omega (
          arith,
          inside-length row (limits_at parts s) row-limited,
          limits-counted parts parts.width (streams_of parts) s stream there refl,
          few-asked parts.width (get_or (streams_of parts) s stream).signal,
        );
        bands = wide-bands row row-bands (row-wide parts s stream row plant there row-limited);
      }

-- a window of the run is small
pub window-small : (parts : FileParts) (first n : ℕ) (window : WindowOf) → IsSmallPlant parts → HasRunAt parts None first n window →
    first + n ≤ parts.ticks → IsSmallWindow window
window-small parts first n window small is inside = record {
  ticks = omega (arith, is.ticks_are, small.ticks);
  streams = omega (arith, is.window_is.streams, small.streams);
  ticked = λ s l. is.window_is.ticked s (omega (arith, l, is.window_is.streams));
  rows = λ t s m l.
      let before : t < n = omega (arith, m, is.ticks_are) in
      let there : s < length (streams_of parts) = omega (arith, l, is.window_is.streams) in
      subst IsSmallRow (sym (is.run t s before there)) (run-small parts small.plant (first + t) s (omega arith) there);
}
