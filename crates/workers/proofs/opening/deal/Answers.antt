use Rattle.std.proofs.Common.{◌∙◌, [], ◌∷◌, ◌++◌, length, sym, ap, arith}
use Rattle.std.proofs.lemmas.List.{get_or_default}
use Rattle.std.specs.Vec.Iter.{into_iter_items}
use Rattle.worker.specs.declared.hand.Hand.{Hand}
use Rattle.workers.specs.Cells.{held_by}
use Rattle.workers.proofs.Hands.{next-pass, one-given}
use Rattle.workers.proofs.opening.deal.Goals as goal

pub loop-hand-preserved : goal.loop-hand-preserved
loop-hand-preserved c =
    let is = c.loop-hand.invariant in
    let n = c.loop-hand.hand-index in
    let hands = c.loop-hand.hands in
    let pass = c.in-Some.pass in
    let old = c.hand-item.result in
    let new : Hand = record { passes = c.push.new.self } in
    let items = c.in-Some.ensures.items in
    let next = next-pass c.args.passes.items (into_iter_items c.next.new.self) n pass (omega arith) (sym items ∙ is.left) in
    record {
      counted = omega (arith, c.in-Some.ensures.len, ap length items);
      left = next.1;
      partly = one-given c.args.hands.now c.args.passes.items hands n new pass (omega arith) next.0
          (λ hand. c.in_ok-push.ensures.items
          ∙ ap (λ (one : Hand). held_by one ++ pass ∷ []) (get_or_default hands n old hand (omega arith)))
          is.partly;
    }
