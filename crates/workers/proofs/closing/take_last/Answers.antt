use Rattle.std.proofs.Common.{◌∙◌, length, ap, arith}
use Rattle.std.proofs.lemmas.List.{get_or_default, length_push}
use Rattle.worker.specs.declared.hand.Hand.{Hand}
use Rattle.workers.specs.Cells.{held_by}
use Rattle.workers.proofs.Hands.{one-taken}
use Rattle.workers.proofs.closing.take_last.Goals as goal

pub loop-hand-preserved : goal.loop-hand-preserved
loop-hand-preserved c =
    let is = c.loop-hand.invariant in
    let n = c.loop-hand.hand-index in
    let hands = c.loop-hand.hands in
    let passes = c.loop-hand.passes.items in
    let pass = c.in-Some.pass in
    let old = c.hand-item.result in
    let new : Hand = record { passes = c.pop.new.self } in
    record {
      counted = omega (arith, is.counted, length_push passes pass, ap length c.in_ok-push.ensures.items);
      partly = one-taken hands passes c.args.hands.now n new pass (omega arith) is.counted
          (λ hand. ap held_by (get_or_default hands n hand old (omega arith)) ∙ c.in-Some.ensures.items) is.partly
          c.push.new.self.items c.in_ok-push.ensures.items;
    }
