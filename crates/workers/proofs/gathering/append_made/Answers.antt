use Rattle.std.proofs.Common.{arith}
use Rattle.workers.proofs.Gathers.{answers_none, answers_more, answers_all}
use Rattle.workers.proofs.gathering.append_made.Goals as goal

pub loop-k-init : goal.loop-k-init
loop-k-init c = answers_none c.args.stream c.args.history.now c.args.gathered.now.items

pub loop-k-preserved : goal.loop-k-preserved
loop-k-preserved c =
    answers_more c.args.stream c.loop-k.k c.args.history.now _ c.args.gathered.now.items c.loop-k.gathered.items _ (omega arith) (omega arith)
    c.in_ok-made_at.ensures c.loop-k.invariant c.in_ok-push.ensures.items

pub returns : goal.returns
returns c =
    answers_all c.args.stream c.loop-k.k c.args.history.now c.args.gathered.now.items c.loop-k.gathered.items (omega arith) c.loop-k.invariant
