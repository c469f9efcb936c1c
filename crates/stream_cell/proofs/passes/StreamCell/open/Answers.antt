use Rattle.std.proofs.lemmas.List.Elements.{All-weaker}
use Rattle.stream_cell.specs.Dealing.{IsDealt}
use Rattle.stream_cell.specs.Seats.{IsPassOf}
use Rattle.stream_cell.proofs.Opened.{dealt_pass, opens, one_slot}
use Rattle.stream_cell.proofs.passes.StreamCell.open.Goals as goal

pub new-requires : goal.new-requires
new-requires c = opens _ _ (one_slot c.args.opening.now c.in_ok-copied.field-0 c.in_ok-open.field-0 c.in_ok-slots.slots.items c.push.new.self.items
    c.in_ok-copied.ensures c.in_ok-open.ensures c.in_ok-slots.ensures.items c.in_ok-push.ensures.items)

pub returns-clause-passes : goal.returns-clause-passes
returns-clause-passes c =
    let shared = c.in-Ok.table.shared in
    All-weaker (IsDealt shared.table_id shared.key) (IsPassOf _) (dealt_pass _) c.in_ok-passes.passes.items c.in_ok-passes.ensures.passes
