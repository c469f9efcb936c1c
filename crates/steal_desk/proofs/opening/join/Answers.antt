use Rattle.std.proofs.Common.{arith}
use Rattle.steal_desk.proofs.Joining.{links}
use Rattle.steal_desk.proofs.opening.join.Goals as goal

pub loop-worker-preserved : goal.loop-worker-preserved
loop-worker-preserved g c =
    links g.units c.loop-worker.worker c.args.seats.now c.loop-worker.seats c.add_others.new.seats c.add_others-in-loop-worker.new.seats
    c.new-others.result.items c.add_others.new.others.items c.add_others-in-loop-worker.new.others c.index-seats-worker.result
    c.loop-worker.invariant (omega arith) c.new-others.ensures.items c.in_ok-add_others.ensures c.in_ok-add_others-2.ensures
