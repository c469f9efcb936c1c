-- Seats of a desk, and what they know of their deques.
use Rattle.std.specs.Prelude.{◌≡◌, ℕ, ◌*◌, ◌≤◌, List, map, length, All}
use Rattle.std.specs.declared.alloc.Global.{Global}
use Rattle.crossbeam_deque.specs.Handles.{view, IsPassOf, worker_deque, worker_flavor, worker_port, worker_view, worker_index, worker_capacity, stealer_deque, stealer_flavor}
use Rattle.turn_desk.specs.Passes as turns
use Rattle.steal_desk.specs.declared.view.DequeView.{DequeView}
use Rattle.steal_desk.specs.declared.seats.Other.{Other}
use Rattle.steal_desk.specs.declared.seats.StealDesk.{StealDesk}
use Rattle.steal_desk.specs.declared.seats.StealSeat.{StealSeat}

-- how many units there are
abbrev pub units_of : StealDesk → ℕ
units_of desk = desk.turns.units

-- what the seat knows of its own deque
abbrev pub own_view : StealSeat → DequeView
own_view seat = worker_view seat.own

-- what it knows of another deque
abbrev pub other_view : Other → DequeView
other_view other = view other.pass

-- what tells a deque from others
abbrev pub DequeId : Type 0
DequeId = (ℕ × ℕ) × Global

-- which deque is the seat's own
abbrev pub own_deque : StealSeat → DequeId
own_deque seat = worker_deque seat.own

-- which deque it takes from by this
abbrev pub deque_of : Other → DequeId
deque_of other = stealer_deque other.stealer

-- which deques it takes from, in the order in which it tries them
abbrev pub other_deques : StealSeat → List DequeId
other_deques seat = map deque_of seat.others.items

-- It has a pass of the deque that it steals from, a first in, first out one.
abbrev pub HasPass : Other → Type 0
HasPass other = IsPassOf (deque_of other) other.pass × (stealer_flavor other.stealer ≡ 0)

-- and the units of that deque are below this bound
abbrev pub IsOther : ℕ → Other → Type 0
IsOther units other = HasPass other × ((other_view other).bound ≡ units)

-- It owns a first in, first out deque that was made for 64 pushes of each unit, and counts what it pushed there; and it has a
-- pass of each of the other deques.
pub record IsSeat (seat : StealSeat) : Type 0 where
  pub some_unit : 1 ≤ seat.units
  pub few_units : seat.units ≤ 256
  pub fifo : worker_flavor seat.own ≡ 0
  pub owner : worker_port seat.own ≡ 0
  pub bound : (own_view seat).bound ≡ seat.units
  pub counted : seat.pushed ≡ length (own_view seat).pushed
  pub few : seat.pushed ≤ 64 * seat.units
  pub index : worker_index seat.own ≤ seat.pushed
  pub room : 64 * seat.units ≤ worker_capacity seat.own
  pub others : All (IsOther seat.units) seat.others.items

-- It draws this desk's numbers, and pushes and takes its units.
pub record IsSeatOf (desk : StealDesk) (seat : StealSeat) : Type 0 where
  pub numbers : turns.IsPassOf desk.turns seat.pass
  pub units : seat.units ≡ units_of desk
  pub deques : IsSeat seat

-- the seat pushes on and takes from the same deques
abbrev pub KeepsDeques : StealSeat → StealSeat → Type 0
KeepsDeques old new =
    (new.units ≡ old.units) × (own_deque new ≡ own_deque old) × (other_deques new ≡ other_deques old)

-- and has drawn the same numbers
abbrev pub KeepsRest : StealSeat → StealSeat → Type 0
KeepsRest old new = KeepsDeques old new × (new.pass ≡ old.pass)
