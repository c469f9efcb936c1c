-- A window that was stepped is one of the run of its plan.
use Rattle.std.proofs.Common.{◌≡◌, ◌∙◌, ℕ, ◌+◌, ◌-◌, ◌<◌, List, [], length, map, refl, sym, ap, arith, slice_index_or}
use Rattle.std.specs.List.{range_with_len}
use Rattle.std.proofs.lemmas.List.FromFn.{fill_by_all, get_or-map-range_with_len, length-map-range_with_len}
use Rattle.quant.specs.Interval.{AllInside}
use Rattle.quant.proofs.Calls.{inside-length}
use Rattle.relaxation.specs.Tube.{Tube, at}
use Rattle.relaxation.specs.Window.{run_tube}
use Rattle.plant_streams.specs.Limits.{limits_at}
use Rattle.plant_streams.specs.Streams.{streams_of}
use Rattle.plant_units.specs.Units.{units_of}
use Rattle.plant.specs.Rows.{RowBands, IsRow}
use Rattle.tables.specs.Output.{rows_of}
use Rattle.renewal.specs.Plan.{PlanOf, IsPlan, window_of}
use Rattle.relax_core.specs.Settled.{WindowOf, bands_in}
use Rattle.report.specs.Output.{labels_of, output_rows}
use Rattle.report.proofs.Ticks.{rows-same}
use Rattle.window_accept.specs.Session.{HasRunOf, bands_of_plan}
use Rattle.stepping.specs.Stepping.{HasStepped, IsStepped}
use Rattle.stepping.proofs.Runs.{labels-counted}

-- no tick was stepped yet
pub begun : (plan : PlanOf) (row : RowBands) (text : List ℕ) → IsRow plan.parts row → row.states ≡ plan.carried → text ≡ [] →
    HasStepped plan 0 row text
begun plan row text is same none = record {
  row_is = is;
  states = λ u l. ap (λ carried. slice_index_or carried u []) same;
  rows = none;
  narrow = λ wide among too. omega (arith, among.0, among.1);
}

-- all were
pub whole : (plan : PlanOf) (row : RowBands) (text shown : List ℕ) → IsPlan plan → HasStepped plan plan.ticks row text → shown ≡ text →
    IsStepped plan shown row
whole plan row text shown is have same = record {
  plan_is = is;
  rows = same ∙ have.rows;
  narrow = have.narrow;
  states = fill_by_all _ row.states (length (units_of plan.parts)) [] have.row_is.counted (λ u l. have.states u l);
  row_is = have.row_is;
}

-- the window of a plan's run, without steps
abbrev pub run_window : PlanOf → WindowOf
run_window plan = record {
  first = plan.first;
  ticks = plan.ticks;
  tubes = map (run_tube (window_of plan)) (range_with_len 0 (length (streams_of plan.parts)));
  steps = [];
}

tube-at : (plan : PlanOf) (s : ℕ) → s < length (streams_of plan.parts) →
    slice_index_or (run_window plan).tubes s [] ≡ run_tube (window_of plan) s
tube-at plan s l =
    get_or-map-range_with_len (run_tube (window_of plan)) 0 (length (streams_of plan.parts)) s s [] l (omega arith)

pub has-run : (plan : PlanOf) → ((plan : PlanOf) (t s : ℕ) → IsPlan plan → t < plan.ticks → s < length (streams_of plan.parts) →
    AllInside (at (run_tube (window_of plan) s) t) (limits_at plan.parts s)) → IsPlan plan → HasRunOf plan (run_window plan)
has-run plan law is = record {
  window_is = record {
    inside = is.inside;
    streams = length-map-range_with_len (run_tube (window_of plan)) 0 (length (streams_of plan.parts));
    ticked = λ s l. ap length (tube-at plan s l) ∙ length-map-range_with_len _ 0 plan.ticks;
    channels = λ s t l m. ap (λ (tube : Tube). length (at tube t)) (tube-at plan s l)
        ∙ inside-length (at (run_tube (window_of plan) s) t) (limits_at plan.parts s) (law plan t s is m l);
    rows = tt;
  };
  first = refl;
  ticks = refl;
  tubes = refl;
}

-- its rows are those of the run
pub run-rows : (plan : PlanOf) →
    rows_of (labels_of plan.parts) (bands_of_plan plan) plan.first plan.ticks ≡ output_rows plan.parts (run_window plan)
run-rows plan = rows-same (labels_of plan.parts) (bands_of_plan plan) (bands_in (run_window plan)) plan.first plan.ticks
    (λ t s l m. ap (λ (tube : Tube). at tube ((plan.first + t) - plan.first))
    (sym (tube-at plan s (omega (arith, m, labels-counted plan.parts)))))
