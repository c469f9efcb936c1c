use Rattle.std.proofs.Common.{refl}
use Rattle.workers.proofs.Opened.{opened-for}
use Rattle.workers.proofs.opening.open_cell.Goals as goal

pub returns : goal.returns
returns c =
    let opened = c.in_ok-cell.ensures in
    opened-for c.args.plan.now c.args.stream c.args.hands.now c.deal.new.hands c.in_ok-cell.cell c.in_ok-cell.passes.items _ _
    c.in_ok-opening.ensures refl (opened.cell).0 (opened.cell).1 opened.views opened.passes c.in_ok-deal.ensures
