use Rattle.std.proofs.Common.{◌≡◌, length}
use Rattle.steal_desk.specs.Opening.{AreNewSeats}
use Rattle.steal_desk.proofs.opening.new_seats.Given as goal

abbrev pub invariant-loop-pass : goal.invariant-loop-pass
invariant-loop-pass l = record {
  counted : length l.seats.items ≡ length l.yielded;
  seats : AreNewSeats l.desk l.workers l.seats.items;
}
