use Rattle.std.proofs.Common.{◌+◌, subst, sym, arith}
use Rattle.steal_desk.specs.declared.seats.StealSeat.{StealSeat}
use Rattle.steal_desk.specs.Making.{IsStarting}
use Rattle.steal_desk.proofs.Starting.{starts, skips}
use Rattle.steal_desk.proofs.opening.new_seat.Goals as goal
use Rattle.steal_desk.proofs.opening.new_seat.Goals.{then-unit-workers, else-unit-workers}

pub loop-unit-preserved : goal.loop-unit-preserved
loop-unit-preserved c =
    let Next : StealSeat → Type 0 = λ seat. IsStarting c.args.desk.now c.args.workers c.args.worker (c.loop-unit.unit + 1) seat in
    elim c.if-unit-workers.branch [
      | then-unit-workers w ↦
          let p = w.push-pushed in
          subst Next (sym w.seat-is) (starts _ _ _ _ _ c.loop-unit.invariant p.result p.new.self (omega arith) w.if-unit-workers.true p.ensures.seat p.ensures.rest p.ensures.pushes)
      | else-unit-workers w ↦ subst Next (sym w.seat-is) (skips _ _ _ _ _ c.loop-unit.invariant w.if-unit-workers.false)
    ]
