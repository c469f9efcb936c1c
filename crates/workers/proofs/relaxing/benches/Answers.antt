use Rattle.std.proofs.Common.{Option, IfSome, length, ap, subst, arith}
use Rattle.std.proofs.lemmas.List.Elements.{All-push, All-same, All-pop}
use Rattle.std.specs.Vec.Iter.{into_iter_items}
use Rattle.turn_desk.specs.declared.passes.DeskPass.{DeskPass}
use Rattle.turn_desk.specs.Passes.{IsPassOf}
use Rattle.workers.specs.declared.relaxing.Bench.{Bench}
use Rattle.workers.specs.Working.{IsReady}
use Rattle.workers.proofs.Benches.{one-more}
use Rattle.workers.proofs.relaxing.benches.Goals as goal

pub loop-hand-preserved : goal.loop-hand-preserved
loop-hand-preserved c =
    let is = c.loop-hand.invariant in
    let split = c.in-Some.ensures.steps in
    let desk = c.args.desk.now in
    let bench : Bench = record { hand = c.in-Some.hand; seat = c.in-Some-pop.seat; room = c.in_ok-room.room } in
    let popped = All-pop (IsPassOf desk) c.loop-hand.seats.items c.pop.new.self.items c.pop.result c.pop.ensures.items is.passes in
    record {
      counted = omega (arith, split.1, ap length split.0);
      seats = omega (arith, ap length split.0, c.in-Some-pop.ensures.len);
      passes = popped.0;
      hands = one-more c.loop-hand.benches.items bench c.push.new.self.items (into_iter_items c.loop-hand.hand-iterator)
          (into_iter_items c.next.new.self) _ c.in_ok-push.ensures.items split.0 is.hands;
      ready = All-same (IsReady c.args.plan.now desk) c.push.new.self.items _ c.in_ok-push.ensures.items
          (All-push (IsReady c.args.plan.now desk) c.loop-hand.benches.items bench is.ready (record {
            seat = subst (λ (popped : Option DeskPass). IfSome popped (IsPassOf desk)) c.in-Some-pop.is popped.1;
            room = c.in_ok-room.ensures;
          }));
    }
