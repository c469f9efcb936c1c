-- The seats that a desk is opened with.
use Rattle.std.specs.Prelude.{◌≡◌, ◌==◌, ℕ, zero, suc, ◌+◌, ◌*◌, ◌%◌, ◌<◌, List, [], ◌∷◌, ◌++◌, length, map, take, drop, All, slice_index_or, if◌then◌else◌}
use Rattle.turn_desk.specs.Passes.{pass_view}
use Rattle.turn_desk.specs.Turns as turns
use Rattle.steal_desk.specs.declared.view.DequeView.{DequeView}
use Rattle.steal_desk.specs.declared.seats.StealDesk.{StealDesk}
use Rattle.steal_desk.specs.declared.seats.StealSeat.{StealSeat}
use Rattle.steal_desk.specs.Deques.{new_pass}
use Rattle.steal_desk.specs.Seats.{DequeId, IsSeatOf, own_deque, own_view, other_deques, other_view, units_of}

-- the units below n that start in the deque of this worker
abbrev pub starting : ℕ → ℕ → ℕ → List ℕ
starting workers worker zero = []
starting workers worker (suc n) = starting workers worker n ++ (if n % workers == worker then n ∷ [] else [])

-- the owner's pass once it has pushed the units that start in its deque
abbrev pub starting_view : ℕ → ℕ → ℕ → DequeView
starting_view units workers worker = record { bound = units; pushed = starting workers worker units; taken = [] }

-- The seat of this worker has pushed its starting units, and has drawn and taken nothing.
pub record IsNewSeat (desk : StealDesk) (workers worker : ℕ) (seat : StealSeat) : Type 0 where
  pub of_desk : IsSeatOf desk seat
  pub numbers : pass_view seat.pass ≡ turns.new_pass (32 * units_of desk)
  pub own : own_view seat ≡ starting_view (units_of desk) workers worker
  pub others : All (λ other. other_view other ≡ new_pass (units_of desk)) seat.others.items

abbrev pub AreNewSeats : StealDesk → ℕ → List StealSeat → Type 0
AreNewSeats desk workers seats =
    (worker : ℕ) (seat : StealSeat) → worker < length seats → IsNewSeat desk workers worker (slice_index_or seats worker seat)

-- the seats' own deques
abbrev pub deques_of : List StealSeat → List DequeId
deques_of seats = map own_deque seats

-- Each seat takes from the deques of all other seats: in rising order, beginning after its own.
abbrev pub AreJoined : List StealSeat → Type 0
AreJoined seats =
    (worker : ℕ) (seat : StealSeat) → worker < length seats →
    other_deques (slice_index_or seats worker seat) ≡ drop (worker + 1) (deques_of seats) ++ take worker (deques_of seats)
