use Rattle.std.proofs.Common.{◌≡◌, ℕ, List, length, subst, sym, arith}
use Rattle.steal_desk.specs.declared.seats.StealSeat.{StealSeat}
use Rattle.steal_desk.specs.Opening.{AreNewSeats, IsNewSeat}
use Rattle.steal_desk.proofs.Starting.{longer, seats-push}
use Rattle.steal_desk.proofs.opening.new_seats.Goals as goal

pub loop-pass-preserved : goal.loop-pass-preserved
loop-pass-preserved c =
    let desk = c.args.desk.now in
    let seat = c.in_ok-new_seat.field-0 in
    let seats = c.loop-pass.seats.items in
    let worker : c.len-worker.result ≡ length seats = omega arith in
    record {
      counted = longer seats _ seat c.loop-pass.yielded c.in-Some.pass c.in_ok-push.ensures.items c.loop-pass.invariant.counted;
      seats = subst (AreNewSeats desk c.args.workers) (sym {A = List StealSeat} c.in_ok-push.ensures.items)
          (seats-push desk c.args.workers seats seat c.loop-pass.invariant.seats
          (subst (λ (n : ℕ). IsNewSeat desk c.args.workers n seat) worker c.in_ok-new_seat.ensures));
    }
