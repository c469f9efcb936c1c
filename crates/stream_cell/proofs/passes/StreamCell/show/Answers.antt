use Rattle.std.proofs.Common.{List, ℕ, sym, ap, subst}
use Rattle.relaxation.specs.History.{History}
use Rattle.tubes.specs.Shape.{HasShapeOf}
use Rattle.stream_cell.specs.Histories.{newest}
use Rattle.stream_cell.proofs.Growing.{newest_shape}
use Rattle.stream_cell.proofs.Seating.{lends, lent}
use Rattle.stream_cell.proofs.passes.StreamCell.show.Goals as goal

pub slot_mut-requires : goal.slot_mut-requires
slot_mut-requires c =
    let v = c.requires.read.0 in
    let is = c.requires.read.1 in
    (is.at.table, (v.seen, lends c.args.self.now c.args.pass.now v v.seen is.at))

pub show-requires : goal.show-requires
show-requires c =
    let v = c.requires.read.0 in
    let is = c.requires.read.1 in
    let same = lent c.args.self.now c.args.pass.now v v.seen c.slot_mut.result.now is.at c.slot_mut.ensures.value in
    record {
      shape = subst (λ (h : History). HasShapeOf c.args.into.now (newest h).tube) (sym same) (sym (newest_shape _ _ v.seen is.at.ordered (sym c.requires.shape)));
    }

pub returns-clause-pass : goal.returns-clause-pass
returns-clause-pass c =
    let pass = c.args.pass.now in
    ap (λ (out : List (ℕ × History)). record {
      seat = record { marker = pass.seat.marker; table_id = pass.seat.table_id; id = pass.seat.id; me = (pass.seat.me.0, out) };
      number = pass.number;
    }) (sym c.slot_mut.ensures.value)
