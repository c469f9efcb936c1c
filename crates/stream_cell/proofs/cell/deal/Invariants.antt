use Rattle.std.proofs.Common.{◌≡◌, ◌-◌, ◌++◌, [], All, length, map}
use Rattle.stream_cell.specs.Cell.{passes_from}
use Rattle.stream_cell.specs.Dealing.{IsDealt}
use Rattle.stream_cell.specs.Seats.{pass_view}
use Rattle.stream_cell.proofs.cell.deal.Given as goal

abbrev pub invariant-loop-number : goal.invariant-loop-number
invariant-loop-number l = record {
  table : l.seat.table_id ≡ l.shared.table_id;
  seat : l.seat.me ≡ (passes_from l.shared.key.tube l.shared.key.passes l.number (l.count - l.number), []);
  counted : length l.passes.items ≡ l.number;
  views : map pass_view l.passes.items ++ l.seat.me.0 ≡ passes_from l.shared.key.tube l.shared.key.passes 0 l.count;
  passes : All (IsDealt l.shared.table_id l.shared.key) l.passes.items;
}
