-- A seat pushes the units that start in its deque.
use Rattle.std.proofs.Common.{◌≡◌, ◌≢◌, ℕ, zero, suc, ◌+◌, ◌%◌, ◌<◌, ◌≤◌, Bool, true, false, cond, eqb, eq-eqb, ne_eqb, List, [], ◌∷◌, ◌++◌, length, Result, Ok, Err, sym, ap, ◌∙◌, subst, add-one, arith, length-append, lt_of_not-le}
use mathlib.Core.Logic.{dite}
use native.Mathlib.Decide.{dec_le}
use Rattle.std.proofs.lemmas.List.{append-nil, get_or_at, get_or_append_left}
use Rattle.turn_desk.specs.Passes as turns
use Rattle.steal_desk.specs.declared.pushes.DeskFull.{DeskFull}
use Rattle.steal_desk.specs.declared.view.DequeView.{DequeView}
use Rattle.steal_desk.specs.declared.seats.StealDesk.{StealDesk}
use Rattle.steal_desk.specs.declared.seats.StealSeat.{StealSeat}
use Rattle.steal_desk.specs.Deques.{with_pushed}
use Rattle.steal_desk.specs.Making.{IsStarting}
use Rattle.steal_desk.specs.Opening.{AreNewSeats, IsNewSeat, starting}
use Rattle.steal_desk.specs.Pushing.{PushesUnit}
use Rattle.steal_desk.specs.Seats.{IsSeat, KeepsRest, own_view, units_of}

module _ (workers worker : ℕ) where
  starting-short : (n : ℕ) → length (starting workers worker n) ≤ n
  starting-short zero = omega arith
  starting-short (suc n) = let h = starting-short n in
      let one : (b : Bool) → length (cond b (n ∷ []) []) ≤ 1 = λ b. elim b as (λ (v : Bool). length (cond v (n ∷ []) []) ≤ 1) [ true ↦ omega arith | false ↦ omega arith ] in
      let low = one (eqb (n % workers) worker) in
      let sum : length (starting workers worker (suc n)) ≡ length (starting workers worker n) + length (cond (eqb (n % workers) worker) (n ∷ []) []) = length-append (starting workers worker n) (cond (eqb (n % workers) worker) (n ∷ []) []) in
      omega arith

  starting-next : (n : ℕ) (b : Bool) → eqb (n % workers) worker ≡ b → starting workers worker (n + 1) ≡ starting workers worker n ++ cond b (n ∷ []) []
  starting-next n b e = ap (starting workers worker) (add-one n) ∙ ap (λ (v : Bool). starting workers worker n ++ cond v (n ∷ []) []) e

  module _ (desk : StealDesk) (unit : ℕ) (seat : StealSeat) (s : IsStarting desk workers worker unit seat) where
    pub skips : unit % workers ≢ worker → IsStarting desk workers worker (unit + 1) seat
    skips ne = record {
      of_desk = s.of_desk;
      numbers = s.numbers;
      own = s.own ∙ ap (λ (l : List ℕ). record { bound = units_of desk; pushed = l; taken = [] }) (sym (starting-next unit false (ne_eqb (unit % workers) worker ne) ∙ append-nil (starting workers worker unit)));
      others = s.others;
    }

    pub starts : (result : Result (Unit {0}) DeskFull) (new : StealSeat) → unit < units_of desk → unit % workers ≡ worker → IsSeat new → KeepsRest seat new → PushesUnit seat unit result new → IsStarting desk workers worker (unit + 1) new
    starts (Err full) new low is seats rest pushes =
        let n = s.of_desk.deques.counted in let m = s.of_desk.units in
        let long : length (own_view seat).pushed ≡ length (starting workers worker unit) = ap (λ (v : DequeView). length v.pushed) s.own in
        let short = starting-short unit in let full = pushes.0 in absurd (omega arith)
    starts (Ok _) new low is seats rest pushes = record {
      of_desk = record {
        numbers = subst (turns.IsPassOf desk.turns) (sym rest.1) s.of_desk.numbers;
        units = rest.0.0 ∙ s.of_desk.units;
        deques = seats;
      };
      numbers = ap turns.pass_view rest.1 ∙ s.numbers;
      own = pushes.1 ∙ ap (λ (v : DequeView). with_pushed v unit) s.own
          ∙ ap (λ (l : List ℕ). record { bound = units_of desk; pushed = l; taken = [] }) (sym (starting-next unit true (eq-eqb (unit % workers) worker is)));
      others = let same = pushes.2 in let none = s.others in cc;
    }

-- the seat of the next worker
pub seats-push : (desk : StealDesk) (workers : ℕ) (seats : List StealSeat) (seat : StealSeat) → AreNewSeats desk workers seats → IsNewSeat desk workers (length seats) seat → AreNewSeats desk workers (seats ++ seat ∷ [])
seats-push desk workers seats seat all one worker d low =
    let long : length (seats ++ seat ∷ []) ≡ length seats + 1 = length-append seats (seat ∷ []) in
    dite (dec_le (length seats) worker)
    (λ last. let is : worker ≡ length seats = omega arith in
    subst (IsNewSeat desk workers worker) (sym (get_or_at seats seat [] d worker (sym is))) (subst (λ (n : ℕ). IsNewSeat desk workers n seat) (sym is) one))
    (λ not. let before : worker < length seats = lt_of_not-le not in
    subst (IsNewSeat desk workers worker) (sym (get_or_append_left seats (seat ∷ []) d worker before)) (all worker d before))

pub longer : {X Y : Type 0} (xs news : List X) (x : X) (ys : List Y) (y : Y) → news ≡ xs ++ x ∷ [] → length xs ≡ length ys → length news ≡ length (ys ++ y ∷ [])
longer xs news x ys y is same = ap length is ∙ length-append xs (x ∷ []) ∙ ap (λ (n : ℕ). n + 1) same ∙ sym (length-append ys (y ∷ []))
