-- The texts are those of the window that was relaxed.
use Rattle.std.proofs.Common.{◌∙◌, true, sym, subst}
use Rattle.parts.specs.Parts.{FileParts}
use Rattle.feeds.specs.ReaderOf.{feeding}
use Rattle.relax_core.specs.Settled.{IsWindow}
use Rattle.flow_top.proofs.Texts.{same-parts, none-made, starved-of, texts-made}
use Rattle.flow_top.proofs.making.RelaxedMakesTexts.next_texts.Goals as goal

pub window_texts-requires : goal.window_texts-requires
window_texts-requires g c =
    let old = c.args.self.now.session in
    let new = c.next_window.new.self in
    let reader = feeding g.E.Source.left g.E.Source.faults c.args.feeds.now c.args.source.now in
    let read = feeding g.E.Source.left g.E.Source.faults c.next_window.new.feeds c.next_window.new.source in
    let same = c.plant.ensures.plant ∙ same-parts true old new reader read _ c.in-Ok.ensures.next in
    subst (λ (parts : FileParts). IsWindow parts c.in-Ok.window) (sym same)
    (c.readers_stay_ready.ensures.window true old new reader read c.in-Ok.window c.in-Ok.ensures.next)

pub returns-in_ok-window_texts-in-Ok : goal.returns-in_ok-window_texts-in-Ok
returns-in_ok-window_texts-in-Ok g c =
    let old = c.args.self.now.session in
    let new = c.next_window.new.self in
    let reader = feeding g.E.Source.left g.E.Source.faults c.args.feeds.now c.args.source.now in
    let read = feeding g.E.Source.left g.E.Source.faults c.next_window.new.feeds c.next_window.new.source in
    texts-made true c.args.index old new reader read c.in-Ok.window _ c.plant.result.now c.plant.ensures.plant c.in-Ok.ensures.next
    c.in_ok-window_texts-in-Ok.ensures

pub returns-in_err-window_texts-in-Ok : goal.returns-in_err-window_texts-in-Ok
returns-in_err-window_texts-in-Ok g c =
    let old = c.args.self.now.session in
    let new = c.next_window.new.self in
    let reader = feeding g.E.Source.left g.E.Source.faults c.args.feeds.now c.args.source.now in
    let read = feeding g.E.Source.left g.E.Source.faults c.next_window.new.feeds c.next_window.new.source in
    starved-of true c.args.index old new reader read c.in-Ok.window c.from_residual.result c.from_residual.ensures.1
    c.in-Ok.ensures.next

pub returns-in-Err : goal.returns-in-Err
returns-in-Err g c =
    let old = c.args.self.now.session in
    let new = c.next_window.new.self in
    let reader = feeding g.E.Source.left g.E.Source.faults c.args.feeds.now c.args.source.now in
    let read = feeding g.E.Source.left g.E.Source.faults c.next_window.new.feeds c.next_window.new.source in
    none-made true c.args.index old new reader read c.in-Err.end c.in-Err.ensures.next
