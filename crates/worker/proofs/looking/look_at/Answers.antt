use Rattle.std.proofs.Common.{◌∙◌, sym, ap}
use Rattle.std.specs.Prelude.{length, map}
use Rattle.relaxation.specs.Tube.{Tube}
use Rattle.renewal.specs.Plan.{window_of}
use Rattle.worker.proofs.Hands.{cell-opened, looked-hand, looked-begins, looked-shows, looked-within}
use Rattle.worker.proofs.Taken.{within-shape}
use Rattle.worker.proofs.looking.look_at.Goals as goal

pub look-requires-clause-shape : goal.look-requires-clause-shape
look-requires-clause-shape g c =
    within-shape c.args.into.now ((window_of c.args.plan.now).opening c.args.stream) c.requires.opened
    ∙ ap (λ (tube : Tube). map length tube) (sym (cell-opened g.C.CellLike.opening g.C.CellLike.is_pass c.args.plan.now c.args.worker
    c.args.cells.now c.args.passes.now.items c.requires.hand c.args.stream c.requires.stream c.index-cells-stream.result
    c.index-cells-stream.is))

pub returns-clause-hand : goal.returns-clause-hand
returns-clause-hand g c =
    looked-hand g.C.CellLike.opening g.C.CellLike.is_pass c.args.plan.now c.args.worker c.args.cells.now c.args.passes.now.items
    c.requires.hand c.args.stream c.requires.stream c.index-cells-stream.result c.index-cells-stream.is
    c.index_mut.result.now c.look.new.pass c.index_mut.ensures.value c.look.ensures.pass
    c.look.result c.args.into.now c.look.new.into c.look.ensures.shows

pub returns-clause-opened : goal.returns-clause-opened
returns-clause-opened g c =
    looked-within g.C.CellLike.opening g.C.CellLike.is_pass c.args.plan.now c.args.worker c.args.cells.now c.args.passes.now.items
    c.requires.hand c.args.stream c.requires.stream c.index-cells-stream.result c.index-cells-stream.is
    c.index_mut.result.now c.look.new.pass c.index_mut.ensures.value c.look.ensures.pass
    c.look.result c.args.into.now c.look.new.into c.look.ensures.shows c.requires.opened

pub returns-clause-begins : goal.returns-clause-begins
returns-clause-begins g c =
    looked-begins g.C.CellLike.opening g.C.CellLike.is_pass c.args.plan.now c.args.worker c.args.cells.now c.args.passes.now.items
    c.requires.hand c.args.stream c.requires.stream c.index-cells-stream.result c.index-cells-stream.is
    c.index_mut.result.now c.look.new.pass c.index_mut.ensures.value c.look.ensures.pass
    c.look.result c.args.into.now c.look.new.into c.look.ensures.shows

pub returns-clause-shows : goal.returns-clause-shows
returns-clause-shows g c =
    looked-shows g.C.CellLike.opening g.C.CellLike.is_pass c.args.plan.now c.args.worker c.args.cells.now c.args.passes.now.items
    c.requires.hand c.args.stream c.requires.stream c.index-cells-stream.result c.index-cells-stream.is
    c.index_mut.result.now c.look.new.pass c.index_mut.ensures.value c.look.ensures.pass
    c.look.result c.args.into.now c.look.new.into c.look.ensures.shows
