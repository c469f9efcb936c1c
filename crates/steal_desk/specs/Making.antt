-- Words of the proofs: a reader of the contracts needs none of them.
-- How seats are made, and given the deques of each other.
use Rattle.std.specs.Prelude.{◌≡◌, ℕ, ◌+◌, ◌-◌, ◌*◌, ◌<◌, ◌≤◌, List, [], ◌∷◌, ◌++◌, map, take, drop, All, Vec, slice_index_or}
use Rattle.std.specs.declared.alloc.Global.{Global}
use Rattle.crossbeam_deque.specs.declared.handles.Worker.{Worker}
use Rattle.crossbeam_deque.specs.Handles.{worker_flavor, worker_port, worker_view, worker_index, worker_capacity}
use Rattle.turn_desk.specs.declared.passes.DeskPass.{DeskPass}
use Rattle.turn_desk.specs.Passes as turns
use Rattle.turn_desk.specs.Turns as turns_given
use Rattle.steal_desk.specs.declared.view.DequeView.{DequeView}
use Rattle.steal_desk.specs.declared.seats.Other.{Other}
use Rattle.steal_desk.specs.declared.seats.StealDesk.{StealDesk}
use Rattle.steal_desk.specs.declared.seats.StealSeat.{StealSeat}
use Rattle.steal_desk.specs.Deques.{new_pass}
use Rattle.steal_desk.specs.Opening.{deques_of, starting}
use Rattle.steal_desk.specs.Seats.{DequeId, HasPass, IsSeat, IsSeatOf, deque_of, other_view, own_deque, own_view, units_of}

-- an empty deque for so many units
module _ {A P : Type 0} where
  abbrev pub IsNewOwner : ℕ → Worker ℕ A DequeView P → Type 0
  IsNewOwner units own =
      (worker_flavor own ≡ 0) × (worker_port own ≡ 0) × (worker_index own ≡ 0) × (64 * units ≤ worker_capacity own)
      × (worker_view own ≡ new_pass units)

-- a pass of the desk's numbers that has drawn none
abbrev pub IsNewPass : StealDesk → DeskPass → Type 0
IsNewPass desk pass = turns.IsPassOf desk.turns pass × (turns.pass_view pass ≡ turns_given.new_pass (32 * units_of desk))

-- a seat without other deques that has pushed its starting units below this one
pub record IsStarting (desk : StealDesk) (workers worker unit : ℕ) (seat : StealSeat) : Type 0 where
  pub of_desk : IsSeatOf desk seat
  pub numbers : turns.pass_view seat.pass ≡ turns_given.new_pass (32 * units_of desk)
  pub own : own_view seat ≡ record { bound = units_of desk; pushed = starting workers worker unit; taken = [] }
  pub others : seat.others.items ≡ []

-- a seat of a desk of so many units
abbrev pub IsSeatWith : ℕ → StealSeat → Type 0
IsSeatWith units seat = IsSeat seat × (seat.units ≡ units)

-- a pass of a deque by which nothing was taken
abbrev pub IsNewOther : ℕ → Other → Type 0
IsNewOther units other = HasPass other × (other_view other ≡ new_pass units)

-- what stays where a seat gets the deques of the others
abbrev pub told_of : StealSeat → DeskPass × DequeView × DequeId
told_of seat = (seat.pass, own_view seat, own_deque seat)

abbrev pub others_of : StealSeat → List Other
others_of seat = seat.others.items

-- the same seat, with these other deques
abbrev pub with_others : StealSeat → Vec Other Global → StealSeat
with_others seat others = record { pass = seat.pass; own = seat.own; others = others; units = seat.units; pushed = seat.pushed }

-- a pass was cut off the seat's own deque
abbrev pub IsCut : StealSeat → StealSeat → Type 0
IsCut old new = (told_of new ≡ told_of old) × (others_of new ≡ others_of old)

-- the seat of this worker takes from the others of these deques
abbrev pub IsJoined : ℕ → List DequeId → ℕ → StealSeat → Type 0
IsJoined units deques worker seat =
    (map deque_of (others_of seat) ≡ drop (worker + 1) deques ++ take worker deques) × All (IsNewOther units) (others_of seat)

-- how many units the desk of the seats has, where there is a seat
abbrev pub units_among : List StealSeat → ℕ
units_among [] = 0
units_among (seat ∷ seats) = seat.units

-- these deques, from the one at `first` on and before the one at `end`, stand behind those that were there
pub record AreAdded (units first end : ℕ) (olds news : List StealSeat) (before after : List Other) : Type 0 where
  pub seats : All (IsSeatWith units) news
  pub told : map told_of news ≡ map told_of olds
  pub kept : map others_of news ≡ map others_of olds
  pub others : All (IsNewOther units) after
  pub deques : map deque_of after ≡ map deque_of before ++ take (end - first) (drop first (deques_of olds))

-- the first of the seats, as many as this, have the deques of all others
pub record AreLinked (units count : ℕ) (olds news : List StealSeat) : Type 0 where
  pub seats : All (IsSeatWith units) news
  pub told : map told_of news ≡ map told_of olds
  pub joined : (worker : ℕ) (seat : StealSeat) → worker < count →
      IsJoined units (deques_of olds) worker (slice_index_or news worker seat)
