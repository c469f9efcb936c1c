use Rattle.std.proofs.Common.{◌≡◌, ◌+◌, ◌*◌, ◌≤◌, []}
use Rattle.crossbeam_deque.specs.Handles.{worker_flavor, worker_port, worker_index, worker_capacity, worker_view}
use Rattle.steal_desk.proofs.opening.new_owner.Given as goal

abbrev pub invariant-loop : goal.invariant-loop
invariant-loop l = record {
  fifo : worker_flavor l.own ≡ 0;
  owner : worker_port l.own ≡ 0;
  index : worker_index l.own ≡ 0;
  room : 64 * l.units ≤ worker_capacity l.own;
  pushed : (worker_view l.own).pushed ≡ [];
  taken : (worker_view l.own).taken ≡ [];
  bound : (worker_view l.own).bound + l.counter ≡ 256 + l.units;
}
