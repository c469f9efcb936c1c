use Rattle.std.specs.Slots.{slots_items}
use Rattle.stream_cell.proofs.Closing.{closes_all}
use Rattle.stream_cell.proofs.passes.StreamCell.close.Goals as goal

pub returns : goal.returns
returns c = closes_all c.args.self c.args.passes.items c.pop.new.self.items c.in-Some.last c.in-Some.ensures.items c.requires.passes c.requires.all
    (slots_items c.close_with-closed.result.words) (slots_items c.close_with-closed.result.slots) c.join_all-seat.result.id c.join_all-seat.result.me
    c.take-history.result c.join_all-seat.ensures.all c.close_with-closed.ensures.values.2 c.take-history.ensures.value
