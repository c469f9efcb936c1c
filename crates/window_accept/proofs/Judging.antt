-- A window that has a plan's run is judged as the run is.
use Rattle.std.proofs.Common.{◌≡◌, ◌∙◌, ℕ, ◌-◌, ◌<◌, List, [], length, slice_index_or, sym, ap, subst, arith, Option}
use Rattle.std.proofs.lemmas.List.FromFn.{get_or-map-range_with_len}
use Rattle.quant.specs.Interval.{AllInside}
use Rattle.relaxation.specs.Tube.{Tube, at}
use Rattle.relaxation.specs.Window.{run_tube}
use Rattle.parts.specs.Parts.{FileParts}
use Rattle.plant_streams.specs.Streams.{streams_of}
use Rattle.plant_streams.specs.Limits.{limits_at}
use Rattle.renewal.specs.Plan.{PlanOf, window_of}
use Rattle.relax_core.specs.Settled.{WindowOf, bands_in}
use Rattle.window_accept.specs.declared.wide.TooWide.{TooWide}
use Rattle.window_accept.specs.Wide.{FindsWide}
use Rattle.window_accept.specs.Session.{HasRunOf, bands_of_plan}
use Rattle.window_accept.proofs.Following.{finds-alike}

-- the bands of a window that has a plan's run
bands-in : (plan : PlanOf) (window : WindowOf) → HasRunOf plan window → (t s : ℕ) → s < length (streams_of plan.parts) →
    bands_in window t s ≡ bands_of_plan plan t s
bands-in plan window h t s l =
    ap (λ (tubes : List Tube). at (slice_index_or tubes s []) (t - window.first)) h.tubes
    ∙ (ap (λ (tube : Tube). at tube (t - window.first))
    (get_or-map-range_with_len (run_tube (window_of plan)) 0 (length (streams_of plan.parts)) s s [] l (omega arith))
    ∙ ap (λ (first : ℕ). at (run_tube (window_of plan) s) (t - first)) h.first)

pub finds-in-run : (plan : PlanOf) (window : WindowOf) (found : Option TooWide) (parts : FileParts) → parts ≡ plan.parts →
    HasRunOf plan window → FindsWide found parts (bands_in window) window.first window.ticks →
    FindsWide found plan.parts (bands_of_plan plan) plan.first plan.ticks
finds-in-run plan window found parts same h finds =
    let here : FindsWide found plan.parts (bands_in window) window.first window.ticks =
    subst (λ (p : FileParts). FindsWide found p (bands_in window) window.first window.ticks) same finds in
    let alike : FindsWide found plan.parts (bands_of_plan plan) window.first window.ticks =
    finds-alike found plan.parts (bands_in window) (bands_of_plan plan) window.first window.ticks
    (λ t s m n l. bands-in plan window h t s l) here in
    subst (λ (first : ℕ). FindsWide found plan.parts (bands_of_plan plan) first plan.ticks) h.first
    (subst (λ (n : ℕ). FindsWide found plan.parts (bands_of_plan plan) window.first n) h.ticks alike)

-- and that they lie in their limits
pub limits-in : (plan : PlanOf) (window : WindowOf) → HasRunOf plan window →
    ((t s : ℕ) → t < plan.ticks → s < length (streams_of plan.parts) →
    AllInside (at (run_tube (window_of plan) s) t) (limits_at plan.parts s)) →
    (parts : FileParts) → parts ≡ plan.parts → (t s : ℕ) → t < window.ticks → s < length (streams_of parts) →
    AllInside (at (slice_index_or window.tubes s []) t) (limits_at parts s)
limits-in plan window h limits parts same t s m l =
    let there : s < length (streams_of plan.parts) = subst (λ (p : FileParts). s < length (streams_of p)) same l in
    let tube : slice_index_or window.tubes s [] ≡ run_tube (window_of plan) s =
    ap (λ (tubes : List Tube). slice_index_or tubes s []) h.tubes
    ∙ get_or-map-range_with_len (run_tube (window_of plan)) 0 (length (streams_of plan.parts)) s s [] there (omega arith) in
    subst (λ (p : FileParts). AllInside (at (slice_index_or window.tubes s []) t) (limits_at p s)) (sym same)
    (subst (λ (x : Tube). AllInside (at x t) (limits_at plan.parts s)) (sym tube)
    (limits t s (subst (λ (n : ℕ). t < n) h.ticks m) there))
