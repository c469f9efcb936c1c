use Rattle.worker.proofs.Hands.{met-hand, met-begins}
use Rattle.worker.proofs.meeting.meet_at.Goals as goal

pub returns-clause-hand : goal.returns-clause-hand
returns-clause-hand g c =
    met-hand g.C.CellLike.opening g.C.CellLike.is_pass c.args.plan.now c.args.worker c.args.cells.now c.args.passes.now.items
    c.requires.hand c.args.stream c.requires.stream c.index-cells-stream.result c.index-cells-stream.is
    c.index_mut.result.now c.meet.new.pass c.index_mut.ensures.value c.meet.ensures.pass
    c.meet.result c.args.made.now c.args.uses.now c.requires.made c.meet.ensures.meets

pub returns-clause-begins : goal.returns-clause-begins
returns-clause-begins g c =
    met-begins g.C.CellLike.opening g.C.CellLike.is_pass c.args.plan.now c.args.worker c.args.cells.now c.args.passes.now.items
    c.requires.hand c.args.stream c.requires.stream c.index-cells-stream.result c.index-cells-stream.is
    c.index_mut.result.now c.meet.new.pass c.index_mut.ensures.value c.meet.ensures.pass
    c.meet.result c.args.made.now c.args.uses.now c.requires.made c.meet.ensures.meets
