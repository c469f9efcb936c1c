-- The benches of workers, and their hands.
use Rattle.std.proofs.Common.{◌≡◌, ◌∙◌, ℕ, ◌<◌, List, [], ◌∷◌, ◌++◌, All, length, map, take, refl, sym, ap, subst, arith}
use Rattle.std.specs.Prelude.{slice_index_or}
use Rattle.std.proofs.lemmas.List.{length-map, get_or-map, map_push, append_assoc}
use Rattle.renewal.specs.Plan.{PlanOf}
use Rattle.stream_cell.specs.declared.passes.StreamCell.{StreamCell}
use Rattle.stream_cell.specs.Seats.{IsPassOf, opening_of}
use Rattle.turn_desk.specs.declared.passes.TurnDesk.{TurnDesk}
use Rattle.worker.specs.declared.hand.Hand.{Hand}
use Rattle.worker.specs.Knowing.{IsHand}
use Rattle.workers.specs.declared.relaxing.Bench.{Bench}
use Rattle.workers.specs.Benches.{AreShared}
use Rattle.workers.specs.Working.{AreBenches, IsReady, hand_of}

-- a bench for each hand
pub benches-shared : (plan : PlanOf) (cells : List StreamCell) (desk : TurnDesk) (hands : List Hand) (benches : List Bench) →
    AreShared plan cells hands → map hand_of benches ≡ hands → All (IsReady plan desk) benches → AreBenches plan cells desk benches
benches-shared plan cells desk hands benches h e ready = record {
  each = λ w bench l.
      let there : w < length hands = subst (λ n. w < n) (sym (length-map benches hand_of) ∙ ap length e) l in
      let at : slice_index_or hands w bench.hand ≡ (slice_index_or benches w bench).hand =
      ap (λ (hs : List Hand). slice_index_or hs w bench.hand) (sym e) ∙ get_or-map hand_of benches w bench bench.hand l in
      record {
        hand = subst (λ (hand : Hand). IsHand opening_of IsPassOf plan w cells hand.passes.items) at (h.each w bench.hand there);
        seat = (ready w bench l).seat;
        room = (ready w bench l).room;
      };
}

-- the hand of each bench
held : (plan : PlanOf) (cells : List StreamCell) (desk : TurnDesk) (benches : List Bench) → AreBenches plan cells desk benches →
    (w : ℕ) (hand : Hand) → w < length (map hand_of benches) →
    IsHand opening_of IsPassOf plan w cells (slice_index_or (map hand_of benches) w hand).passes.items
held plan cells desk [] h w hand l = absurd (omega arith)
held plan cells desk (bench ∷ benches) h w hand l =
    let all = bench ∷ benches in
    let there : w < length all = subst (λ n. w < n) (length-map all hand_of) l in
    subst (λ (one : Hand). IsHand opening_of IsPassOf plan w cells one.passes.items)
    (sym (get_or-map hand_of all w bench hand there)) (h.each w bench there).hand

pub hands-shared : (plan : PlanOf) (cells : List StreamCell) (desk : TurnDesk) (before : List Hand) (benches : List Bench) →
    AreShared plan cells before → length benches ≡ length before → AreBenches plan cells desk benches →
    AreShared plan cells (map hand_of benches)
hands-shared plan cells desk before benches h e b = record {
  counted = h.counted;
  opened = h.opened;
  passes = λ s cell l. h.passes s cell l ∙ (sym e ∙ sym (length-map benches hand_of));
  each = held plan cells desk benches b;
}

-- one more bench
pub one-more : (old : List Bench) (bench : Bench) (new : List Bench) (left rest all : List Hand) → new ≡ old ++ bench ∷ [] →
    left ≡ hand_of bench ∷ rest → map hand_of old ++ left ≡ all → map hand_of new ++ rest ≡ all
one-more old bench new left rest all e split is =
    ap (λ (bs : List Bench). map hand_of bs ++ rest) e ∙ (ap (λ (hs : List Hand). hs ++ rest) (map_push hand_of old bench)
    ∙ (append_assoc (map hand_of old) (hand_of bench ∷ []) rest ∙ (ap (λ hs. map hand_of old ++ hs) (sym split) ∙ is)))

front : {X : Type 0} (xs ys : List X) → take (length xs) (xs ++ ys) ≡ xs
front [] [] = refl
front [] (y ∷ ys) = refl
front (x ∷ xs) ys = ap (λ l. x ∷ l) (front xs ys)

-- what is written back in front of a list's end
pub written : {X : Type 0} (xs ys : List X) (n : ℕ) → n ≡ length xs → take n (xs ++ ys) ≡ xs
written xs ys n e = ap (λ k. take k (xs ++ ys)) e ∙ front xs ys

-- the hands that are left once the benches are written back
pub left-shared : (plan : PlanOf) (cells : List StreamCell) (desk : TurnDesk) (hands left : List Hand) (first benches rest : List Bench) (n : ℕ) →
    AreShared plan cells hands → map hand_of first ≡ hands → length benches ≡ length first → n ≡ length benches →
    AreBenches plan cells desk benches → left ≡ map hand_of (take n (benches ++ rest)) → AreShared plan cells left
left-shared plan cells desk hands left first benches rest n h e long counted b is =
    subst (λ (held : List Hand). AreShared plan cells held) (sym (is ∙ ap (map hand_of) (written benches rest n counted)))
    (hands-shared plan cells desk hands benches h (long ∙ (sym (length-map first hand_of) ∙ ap length e)) b)

pub left-counted : (hands left : List Hand) (first benches rest : List Bench) (n : ℕ) → map hand_of first ≡ hands →
    length benches ≡ length first → n ≡ length benches → left ≡ map hand_of (take n (benches ++ rest)) → length left ≡ length hands
left-counted hands left first benches rest n e long counted is =
    ap length (is ∙ ap (map hand_of) (written benches rest n counted))
    ∙ (length-map benches hand_of ∙ (long ∙ (sym (length-map first hand_of) ∙ ap length e)))
