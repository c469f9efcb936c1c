use Rattle.std.proofs.Common.{◌≡◌, ◌++◌, [], All, length, map}
use Rattle.std.specs.Vec.Iter.{into_iter_items, into_iter_len}
use Rattle.stream_cell.specs.Dealing.{IsAlone}
use Rattle.stream_cell.specs.Seats.{pass_view}
use Rattle.stream_cell.proofs.cell.join_all.Given as goal

abbrev pub invariant-loop-other : goal.invariant-loop-other
invariant-loop-other l = record {
  counted : into_iter_len l.other-iterator ≡ length (into_iter_items l.other-iterator);
  table : l.seat.table_id ≡ l.shared.table_id;
  out : l.seat.me.1 ≡ [];
  others : All (IsAlone l.shared.table_id) (into_iter_items l.other-iterator);
  all : l.seat.me.0 ++ map pass_view (into_iter_items l.other-iterator) ≡ l.fn.seat.me.0 ++ map pass_view l.fn.others.items;
}
