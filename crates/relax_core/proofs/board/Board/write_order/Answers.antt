-- There is room for as many streams as the order has.
use Rattle.std.proofs.Common.{◌≤◌, length, sym, ap, arith}
use Rattle.std.proofs.lemmas.List.{length-take-le}
use Rattle.renewal.proofs.Counts.{streams-few}
use Rattle.relax_core.proofs.Orders.{order-length}
use Rattle.relax_core.proofs.board.Board.write_order.Goals as goal

pub slice_bounds-copy_from_slice-end : goal.slice_bounds-copy_from_slice-end
slice_bounds-copy_from_slice-end c = omega (
  arith,
  ap length c.as_slice-streams.ensures.value,
  order-length c.self.inside.plan.now c.self.inside.order.items c.self.invariant.order,
  streams-few c.self.inside.plan.now c.self.invariant.steps.plan,
)

fits : (c : goal.After-copy_from_slice-arg-1) → length c.as_slice-streams.result.now ≤ length c.args.order.now
fits c = omega (
  arith,
  ap length c.as_slice-streams.ensures.value,
  order-length c.self.inside.plan.now c.self.inside.order.items c.self.invariant.order,
  streams-few c.self.inside.plan.now c.self.invariant.steps.plan,
)

pub slice_bounds-copy_from_slice-end-2 : goal.slice_bounds-copy_from_slice-end-2
slice_bounds-copy_from_slice-end-2 c = sym (length-take-le _ c.args.order.now (fits c))

pub copy_from_slice-requires : goal.copy_from_slice-requires
copy_from_slice-requires c = length-take-le _ c.args.order.now (fits c)
