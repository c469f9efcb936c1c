-- The tubes are filled, and the run ends where it has to.
use Rattle.std.proofs.Common.{◌≡◌, ◌∙◌, length, drop, sym, subst, arith}
use Rattle.std.proofs.lemmas.List.{take_at}
use Rattle.feeds.specs.Window.{FillsWindow}
use Rattle.feeds.proofs.Ends.{fills-window}
use Rattle.feeds.proofs.filling.window_tubes.Goals as goal

pub overflow_add-span : goal.overflow_add-span
overflow_add-span c = let most = c.parts.ensures.plant.ranges.ticks.1 in omega (arith, c.requires.inside)

pub returns-clause-fills : goal.returns-clause-fills
returns-clause-fills c =
    let parts = c.args.plant.now in
    let fills = c.in_ok-fill.ensures.fills in
    let length_is : length c.fill.new.tubes ≡ c.in_ok-tubes.tubes.len = omega arith in
    let same = c.new.ensures ∙ take_at c.fill.new.tubes (drop (length c.fill.new.tubes) c.in_ok-tubes.tubes.items)
    c.in_ok-tubes.tubes.len length_is in
    subst (FillsWindow parts c.args.text.now c.args.span.first c.args.span.ticks c.args.taken.now c.end_run.new.taken) (sym same)
    (fills-window parts c.parts.ensures.plant c.args.text.now c.args.span.first c.args.span.ticks c.requires.inside c.args.taken.now
    c.fill.new.taken c.end_run.new.taken c.fill.new.tubes fills c.in_ok-end_run.ensures.ends)
