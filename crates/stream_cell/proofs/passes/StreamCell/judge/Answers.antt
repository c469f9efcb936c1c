use Rattle.std.proofs.Common.{sym, subst}
use Rattle.relaxation.specs.History.{History}
use Rattle.tubes.specs.Shape.{HasShapeOf}
use Rattle.stream_cell.specs.Histories.{newest}
use Rattle.stream_cell.proofs.Growing.{newest_shape}
use Rattle.stream_cell.proofs.Seating.{lends, lent}
use Rattle.stream_cell.proofs.passes.StreamCell.judge.Goals as goal

pub slot_mut-requires : goal.slot_mut-requires
slot_mut-requires c =
    let v = c.requires.read.0 in
    let is = c.requires.read.1 in
    (is.at.table, (v.seen, lends c.args.self.now c.args.pass.now v v.seen is.at))

pub meet-requires-clause-shape : goal.meet-requires-clause-shape
meet-requires-clause-shape c =
    let v = c.requires.read.0 in
    let is = c.requires.read.1 in
    let same = lent c.args.self.now c.args.pass.now v v.seen c.slot_mut.result.now is.at c.slot_mut.ensures.value in
    subst (λ (h : History). HasShapeOf (newest h).tube c.args.renewal.now) (sym same) (newest_shape _ _ v.seen is.at.ordered c.requires.shape)
