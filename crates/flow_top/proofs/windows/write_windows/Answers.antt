use Rattle.std.proofs.Common.{◌∙◌, ◌<◌, sym, subst, refl, arith}
use Rattle.parts.specs.Parts.{FileParts}
use Rattle.feeds.specs.ReaderOf.{feeding}
use Rattle.flow_top.specs.WindowsCourse.{first_tick, IsWindowCount}
use Rattle.flow_top.specs.Uses.{source_use}
use Rattle.flow_top.proofs.Blame.{pair-blamed, next-blamed, texts-blamed}
use Rattle.flow_top.proofs.Written.{open-broke, open-written, texts-broke, pair-stopped, pair-written, all-written, left-over}
use Rattle.flow_top.proofs.windows.write_windows.Goals as goal

-- src/windows.rt:201:5
pub returns-in_err-write_pair-clause-ended : goal.returns-in_err-write_pair-clause-ended
returns-in_err-write_pair-clause-ended g c records stands =
    open-broke c.args.command g.W.MakesTexts.relaxes _ c.plant.ensures.session.plant c.requires.writes c.first_wide_places_are_one.ensures
    c.wide_places_are_found.ensures _ _ c.from_residual.result c.in_err-write_pair.field-0.0 c.from_residual.ensures.1
    (rw (c.output_header.ensures, c.header_of_steps.ensures) at c.in_err-write_pair.ensures.ended) records

pub loop-index-init : goal.loop-index-init
loop-index-init g c =
    let old = g.W.MakesTexts.session c.args.windows.now in
    let parts = c.parts.ensures.parts ∙ c.plant.ensures.plant in
    open-written c.args.command g.W.MakesTexts.relaxes old.parts c.plant.ensures.session.plant c.requires.writes
    c.first_wide_places_are_one.ensures c.wide_places_are_found.ensures c.window_count-count.result old
    (feeding g.E.Source.left g.E.Source.faults c.args.feeds.now c.args.extra.now) _ refl
    c.plant.ensures.session c.requires.opening c.requires.reader (c.sessions_follow_the_run.ensures.opening old.parts)
    (subst (λ parts. IsWindowCount parts c.window_count-count.result) parts c.window_count-count.ensures)
    c.in_ok-write_pair.ensures.counted
    (rw (c.output_header.ensures, c.header_of_steps.ensures) at c.in_ok-write_pair.ensures.ended)

pub next_texts-requires-clause-before : goal.next_texts-requires-clause-before
next_texts-requires-clause-before g c κs within = c.loop-index.invariant.before

pub next_texts-requires-clause-more : goal.next_texts-requires-clause-more
next_texts-requires-clause-more g c κs within =
    let so = c.loop-index.invariant in
    subst (λ (parts : FileParts). first_tick parts c.loop-index.index < parts.ticks) (sym so.same)
    (left-over _ c.window_count-count.result c.loop-index.index so.least c.loop-index-test.true)

pub returns-in_err-texts-clause-ended : goal.returns-in_err-texts-clause-ended
returns-in_err-texts-clause-ended g c records stands =
    texts-broke c.args.command g.W.MakesTexts.relaxes _ c.plant.ensures.session.plant c.requires.writes
    c.first_wide_places_are_one.ensures c.wide_places_are_found.ensures c.window_count-count.result c.loop-index.index
    c.loop-index-test.true (g.W.MakesTexts.session c.loop-index.windows) (feeding g.E.Source.left g.E.Source.faults c.args.feeds.now c.args.extra.now)
    (feeding g.E.Source.left g.E.Source.faults c.loop-index.feeds c.loop-index.extra) _ c.loop-index.invariant _ c.from_residual-in_err-texts.result c.in_err-texts.field-0.0
    (g.W.MakesTexts.session c.next_texts.new.windows) (feeding g.E.Source.left g.E.Source.faults c.next_texts.new.feeds c.next_texts.new.extra) refl refl
    c.from_residual-in_err-texts.ensures.1 c.in_err-texts.ensures.texts records stands

pub returns-in_err-write_texts-clause-ended : goal.returns-in_err-write_texts-clause-ended
returns-in_err-write_texts-clause-ended g c records stands =
    pair-stopped c.args.command g.W.MakesTexts.relaxes _ c.plant.ensures.session.plant c.requires.writes
    c.first_wide_places_are_one.ensures c.wide_places_are_found.ensures c.window_count-count.result c.loop-index.index
    c.loop-index-test.true (g.W.MakesTexts.session c.loop-index.windows) (feeding g.E.Source.left g.E.Source.faults c.args.feeds.now c.args.extra.now)
    (feeding g.E.Source.left g.E.Source.faults c.loop-index.feeds c.loop-index.extra) _ c.loop-index.invariant _ (g.W.MakesTexts.session c.next_texts.new.windows)
    (feeding g.E.Source.left g.E.Source.faults c.next_texts.new.feeds c.next_texts.new.extra) c.in_ok-texts.ensures.moved c.in_ok-texts.ensures.texts _
    (record { text = refl; count = refl }) (record { text = refl; count = refl }) _ c.from_residual-in_err-write_texts.result
    c.in_err-write_texts.field-0.0 c.from_residual-in_err-write_texts.ensures.1 c.in_err-write_texts.ensures.ended records stands

pub loop-index-preserved : goal.loop-index-preserved
loop-index-preserved g c =
    let so = c.loop-index.invariant in
    let more = c.in_ok-write_texts.ensures.counted in
    pair-written c.args.command g.W.MakesTexts.relaxes _ c.plant.ensures.session.plant c.requires.writes
    c.first_wide_places_are_one.ensures c.wide_places_are_found.ensures c.window_count-count.result c.loop-index.index
    c.loop-index-test.true (g.W.MakesTexts.session c.loop-index.windows) (feeding g.E.Source.left g.E.Source.faults c.args.feeds.now c.args.extra.now)
    (feeding g.E.Source.left g.E.Source.faults c.loop-index.feeds c.loop-index.extra) _ so _ (g.W.MakesTexts.session c.next_texts.new.windows)
    (feeding g.E.Source.left g.E.Source.faults c.next_texts.new.feeds c.next_texts.new.extra) c.in_ok-texts.ensures.moved c.in_ok-texts.ensures.texts _
    (record { text = refl; count = refl }) (record { text = refl; count = refl }) c.in_ok-texts.ensures.counted
    (record { out = omega (arith, so.counted_sinks.out, more.out); trace = omega (arith, so.counted_sinks.trace, more.trace) })
    c.in_ok-write_texts.ensures.ended

pub returns-clause-ended : goal.returns-clause-ended
returns-clause-ended g c records stands =
    all-written c.args.command g.W.MakesTexts.relaxes _ c.plant.ensures.session.plant c.requires.writes
    c.first_wide_places_are_one.ensures c.wide_places_are_found.ensures c.window_count-count.result c.loop-index.index
    (g.W.MakesTexts.session c.loop-index.windows) (feeding g.E.Source.left g.E.Source.faults c.args.feeds.now c.args.extra.now)
    (feeding g.E.Source.left g.E.Source.faults c.loop-index.feeds c.loop-index.extra) _ _
    (grind (arith, c.loop-index.auto.index-end, c.loop-index-test.false)) refl c.loop-index.invariant records stands

pub returns-in_err-write_pair-clause-blamed : goal.returns-in_err-write_pair-clause-blamed
returns-in_err-write_pair-clause-blamed g c =
    pair-blamed c.args.command _ _ _ _ c.from_residual.result c.in_err-write_pair.field-0.0 c.from_residual.ensures.1
    c.in_err-write_pair.ensures.ended

pub returns-in_err-texts-clause-blamed : goal.returns-in_err-texts-clause-blamed
returns-in_err-texts-clause-blamed g c =
    texts-blamed c.args.command _ _ (g.E.Source.faults c.loop-index.extra) c.from_residual-in_err-texts.result c.in_err-texts.field-0.0
    c.loop-index.invariant.counted_feeds c.from_residual-in_err-texts.ensures.1
    (source_use g.E.Source.left g.E.Source.faults c.loop-index.extra c.next_texts.new.extra) refl refl c.in_err-texts.ensures.blamed

pub returns-in_err-write_texts-clause-blamed : goal.returns-in_err-write_texts-clause-blamed
returns-in_err-write_texts-clause-blamed g c =
    next-blamed c.args.command _ _ _ _ _ c.from_residual-in_err-write_texts.result c.in_err-write_texts.field-0.0
    c.loop-index.invariant.counted_sinks (record { text = refl; count = refl }) (record { text = refl; count = refl })
    c.from_residual-in_err-write_texts.ensures.1 c.in_err-write_texts.ensures.ended
