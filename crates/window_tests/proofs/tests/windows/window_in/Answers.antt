-- The opening bands and the given tubes plan a window.
use Rattle.std.proofs.Common.{◌∙◌, ◌+◌, ◌≤◌, List, None, sym, subst₂, ap, arith}
use Rattle.quant.specs.Interval.{Interval}
use Rattle.relaxation.specs.Tube.{Tube}
use Rattle.parts.specs.Parts.{FileParts}
use Rattle.renewal.specs.Plan.{IsPlan}
use Rattle.window_tests.proofs.tests.windows.window_in.Goals as goal

pub new-requires : goal.new-requires
new-requires c =
    let parts = c.args.plant.now in
    let n = c.args.ticks in
    let law = c.windows_cut_the_run.ensures in
    let plant = c.parts.ensures.plant in
    let ticks = ap (λ (p : FileParts). p.ticks) (c.behind-plant.view_is ∙ c.parts.ensures.parts) in
    let inside : 0 + n ≤ parts.ticks = omega (arith, ticks, c.if-parts-ticks.false) in
    subst₂ (λ (carried : List (List Interval)) (feeds : List Tube).
    IsPlan (record { parts = parts; first = 0; ticks = n; carried = carried; feeds = feeds }))
    (law.opening parts None n ∙ sym c.in_ok-carried.ensures) (sym c.in_ok-feeds.ensures)
    (law.plan parts None 0 n plant (omega arith) (omega arith) inside)
