use Rattle.std.proofs.Common.{arith}
use Rattle.steal_desk.proofs.Joining.{adds}
use Rattle.steal_desk.proofs.opening.add_others.Goals as goal

pub loop-index-preserved : goal.loop-index-preserved
loop-index-preserved g c =
    adds g.units c.args.first c.loop-index.index c.args.seats.now c.loop-index.seats c.args.others.now.items c.loop-index.others.items c.push.new.self.items
    c.index-seats-index.result c.as_other.new.self c.in_ok-other.other c.loop-index.invariant (omega arith) (omega arith)
    c.in_ok-other.ensures.seat c.in_ok-other.ensures.cut c.in_ok-other.ensures.other.0 c.in_ok-other.ensures.other.1 c.in_ok-push.ensures.items
