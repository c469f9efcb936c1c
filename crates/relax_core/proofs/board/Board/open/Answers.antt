-- The board before any step.
use Rattle.std.proofs.Common.{◌<◌, ◌^◌, ◌∙◌, length, ap, sym, subst, None}
use Rattle.std.proofs.lemmas.List.{length-replicate}
use Rattle.relaxation.specs.Core.{versions_of}
use Rattle.plant_streams.specs.Streams.{streams_of}
use Rattle.relax_core.specs.Board.{BoardOf, IsBoard}
use Rattle.relax_core.proofs.Boards.{opening-is, opening-seen}
use Rattle.relax_core.proofs.Rooms.{opening-few, new-rooms, new-renewed}
use Rattle.relax_core.proofs.Remembered.{none-met}
use Rattle.relax_core.proofs.board.Board.open.Goals as goal

pub invariant_of-result : goal.invariant_of-result
invariant_of-result c =
    let plan = c.args.plan.now in
    let seen = opening-seen plan _ _ c.in_ok-lines.ensures c.new.ensures.items in
    record {
      steps = subst IsBoard (sym seen) (opening-is plan c.rooms_of.ensures.plan);
      few = λ s. subst (λ (board : BoardOf). length (versions_of board.versions s) < 2 ^ 32) (sym seen) (opening-few plan s);
      rooms = new-rooms plan c.in_ok-rooms.rooms.items c.in_ok-rooms.ensures.rooms;
      renewed = new-renewed plan _ c.in_ok-rooms.rooms.items c.in_ok-rooms.ensures.rooms;
      counted = ap length c.in_ok-met.ensures ∙ length-replicate (length (streams_of plan.parts)) None;
      met = none-met plan _ (length (streams_of plan.parts)) c.in_ok-met.met.items c.in_ok-met.ensures;
      order = c.in_ok-order.ensures;
    }

pub returns : goal.returns
returns c = opening-seen c.args.plan.now _ _ c.in_ok-lines.ensures c.new.ensures.items
