use Rattle.std.proofs.Common.{sym, length, ap, ◌∙◌, arith}
use Rattle.std.proofs.lemmas.List.Elements.{All-head, All-rest, All-same}
use Rattle.std.specs.Vec.Iter.{into_iter_items}
use Rattle.stream_cell.specs.Dealing.{IsAlone}
use Rattle.stream_cell.specs.Kinds.{MyMe}
use Rattle.stream_cell.proofs.Dealing.{joins, joined_all}
use Rattle.stream_cell.proofs.cell.join_all.Goals as goal

pub join_seat-requires : goal.join_seat-requires
join_seat-requires c =
    let name = c.args.shared.now.table_id in
    let first = All-head (IsAlone name) c.in-Some.other (into_iter_items c.next.new.self)
    (All-same (IsAlone name) _ (into_iter_items c.loop-other.other-iterator) (sym c.in-Some.ensures.steps.0) c.loop-other.invariant.others) in
    (c.loop-other.invariant.table, first.table, ap (λ (me : MyMe). me.1) first.me, omega arith, joins _ _ _ _ _)

pub loop-other-preserved : goal.loop-other-preserved
loop-other-preserved c =
    let name = c.args.shared.now.table_id in
    let rest = into_iter_items c.next.new.self in
    let others = into_iter_items c.loop-other.other-iterator in
    let split = c.in-Some.ensures.steps in
    let is = c.loop-other.invariant in
    let first = All-head (IsAlone name) c.in-Some.other rest (All-same (IsAlone name) _ others (sym split.0) is.others) in
    record {
      counted = omega (arith, split.1, ap length split.0);
      table = c.join_seat.ensures.0 ∙ is.table;
      out = ap (λ (me : MyMe). me.1) c.join_seat.ensures.2 ∙ is.out;
      others = All-rest (IsAlone name) c.in-Some.other rest others split.0 is.others;
      all = joined_all c.loop-other.seat.me c.join_seat.new.seat.me c.in-Some.other others rest _ first.me c.join_seat.ensures.2 split.0 is.all;
    }
