use Rattle.std.proofs.Common.{rules, length, refl, ap, ◌∙◌, arith}
use Rattle.std.proofs.lemmas.List.{length_push}
use Rattle.std.proofs.lemmas.List.Elements.{All-push, All-same}
use Rattle.stream_cell.specs.declared.passes.CellPass.{CellPass}
use Rattle.stream_cell.specs.Dealing.{IsDealt}
use Rattle.stream_cell.proofs.Dealing.{cuts, left_is, dealt_views, is_dealt}
use Rattle.stream_cell.proofs.cell.deal.Goals as goal

pub split_seat-others-requires : goal.split_seat-others-requires
split_seat-others-requires c = (search rules, search rules, cuts _ _ _)

pub loop-number-preserved : goal.loop-number-preserved
loop-number-preserved c =
    let about = c.args.shared.now.key in
    let number = c.loop-number.number in
    let count = c.args.count in
    let dealt = IsDealt c.args.shared.now.table_id about in
    let me = c.loop-number.seat.me in
    let left = c.split_seat-others.result.me in
    let pass : CellPass = record { seat = c.split_seat-others.new.seat; number = number } in
    let is = c.loop-number.invariant in
    let split = c.split_seat-others.ensures in
    record {
      table = split.3 ∙ is.table;
      seat = left_is about number count c.loop-number-test.true me left pass is.seat split.2 split.4 refl;
      counted = omega (arith, length_push c.loop-number.passes.items pass, ap length c.in_ok-push.ensures.items);
      views = dealt_views about number count c.loop-number-test.true me left pass is.seat split.2 split.4 refl c.loop-number.passes.items c.push.new.self.items is.views c.in_ok-push.ensures.items;
      passes = All-same dealt c.push.new.self.items _ c.in_ok-push.ensures.items (All-push dealt c.loop-number.passes.items pass is.passes
          (is_dealt about number count c.loop-number-test.true me left pass is.seat split.2 split.4 refl c.args.shared.now.table_id (split.0 ∙ is.table)));
    }
