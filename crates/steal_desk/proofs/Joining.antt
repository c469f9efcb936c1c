-- Each seat gets the deques of the others.
use Rattle.std.proofs.Common.{◌≡◌, ℕ, ◌+◌, ◌-◌, ◌<◌, ◌≤◌, List, [], ◌∷◌, ◌++◌, length, map, set, take, drop, get_or, All, refl, sym, ap, ◌∙◌, subst, append_assoc, arith, length-drop, get_or-set_same, get_or-set_other, Vec}
use mathlib.Core.Logic.{dite}
use native.Mathlib.Decide.{ℕ_discrete}
use Rattle.std.specs.declared.alloc.Global.{Global}
use Rattle.std.proofs.lemmas.List.{length-map, map-append, take_more, take_rest, get_or-drop}
use Rattle.std.proofs.lemmas.List.Elements.{All-set, All-push}
use Rattle.std.proofs.Math.ListN.{get_or-map}
use Rattle.std.proofs.Math.Seq.{map-set_same}
use Rattle.turn_desk.specs.declared.passes.DeskPass.{DeskPass}
use Rattle.steal_desk.specs.declared.view.DequeView.{DequeView}
use Rattle.steal_desk.specs.declared.seats.Other.{Other}
use Rattle.steal_desk.specs.declared.seats.StealSeat.{StealSeat}
use Rattle.steal_desk.specs.Making.{AreAdded, AreLinked, IsCut, IsJoined, IsNewOther, IsSeatWith, others_of, told_of, units_among, with_others}
use Rattle.steal_desk.specs.declared.seats.StealDesk.{StealDesk}
use Rattle.steal_desk.specs.Deques.{new_pass}
use Rattle.steal_desk.specs.Opening.{AreJoined, AreNewSeats, deques_of}
use Rattle.steal_desk.specs.Seats.{DequeId, deque_of, own_deque, own_view, units_of}
use Rattle.steal_desk.proofs.Stealing.{given-back}
use Rattle.turn_desk.specs.Passes as turns

-- the deques are among what stays
deques-told : (seats : List StealSeat) → deques_of seats ≡ map (λ (t : DeskPass × DequeView × DequeId). t.2) (map told_of seats)
deques-told [] = refl
deques-told (x ∷ xs) = ap (λ (l : List DequeId). own_deque x ∷ l) (deques-told xs)

pub same-deques : (olds news : List StealSeat) → map told_of news ≡ map told_of olds → deques_of news ≡ deques_of olds
same-deques olds news e = deques-told news ∙ ap (map (λ (t : DeskPass × DequeView × DequeId). t.2)) e ∙ sym (deques-told olds)

same-length : (olds news : List StealSeat) → map told_of news ≡ map told_of olds → length news ≡ length olds
same-length olds news e = sym (length-map news told_of) ∙ ap length e ∙ length-map olds told_of

-- one deque more
added-more : (ids : List DequeId) (first index : ℕ) (d : DequeId) → first ≤ index → index < length ids → take (index + 1 - first) (drop first ids) ≡ take (index - first) (drop first ids) ++ get_or ids index d ∷ []
added-more ids first index d le low =
    let n : ℕ = index - first in
    let long : length (drop first ids) ≡ length ids - first = length-drop first ids in
    let more : index + 1 - first ≡ n + 1 = omega arith in
    let place : first + n ≡ index = omega arith in
    ap (λ (k : ℕ). take k (drop first ids)) more ∙ take_more (drop first ids) n d (omega arith)
    ∙ ap (λ (x : DequeId). take n (drop first ids) ++ x ∷ []) (get_or-drop first ids n d ∙ ap (λ (k : ℕ). get_or ids k d) place)

pub adds : (units first index : ℕ) (olds now : List StealSeat) (before so_far after : List Other) (d new : StealSeat) (other : Other)
    → AreAdded units first index olds now before so_far → first ≤ index → index < length now → IsSeatWith units new → IsCut (get_or now index d) new
    → IsNewOther units other → deque_of other ≡ own_deque (get_or now index d) → after ≡ so_far ++ other ∷ []
    → AreAdded units first (index + 1) olds (set now index new) before after
adds units first index olds now before so_far after d new other t le low seat cut is_new is more =
    let same = same-deques olds now t.told in
    let ids : List DequeId = deques_of olds in
    let long : length ids ≡ length now = ap length (sym same) ∙ length-map now own_deque in
    let here : get_or ids index (own_deque d) ≡ deque_of other = ap (λ (l : List DequeId). get_or l index (own_deque d)) (sym same) ∙ get_or-map own_deque now index d ∙ sym is in
    record {
      seats = All-set (IsSeatWith units) now index new seat t.seats;
      told = map-set_same told_of now index new d cut.0 ∙ t.told;
      kept = map-set_same others_of now index new d cut.1 ∙ t.kept;
      others = subst (All (IsNewOther units)) (sym more) (All-push (IsNewOther units) so_far other t.others is_new);
      deques = ap (map deque_of) more ∙ map-append deque_of so_far (other ∷ []) ∙ ap (λ (l : List DequeId). l ++ deque_of other ∷ []) t.deques
          ∙ append_assoc (map deque_of before) (take (index - first) (drop first ids)) (deque_of other ∷ [])
          ∙ ap (λ (x : DequeId). map deque_of before ++ (take (index - first) (drop first ids) ++ x ∷ [])) (sym here)
          ∙ ap (λ (l : List DequeId). map deque_of before ++ l) (sym (added-more ids first index (own_deque d) le (omega arith)));
    }

-- a seat with the deques of all others
with-others : (units : ℕ) (seat : StealSeat) (others : Vec Other Global) → IsSeatWith units seat → All (IsNewOther units) others.items → IsSeatWith units (with_others seat others)
with-others units seat others s all = let r = s.0 in (
  record {
    some_unit = r.some_unit;
    few_units = r.few_units;
    fifo = r.fifo;
    owner = r.owner;
    bound = r.bound;
    counted = r.counted;
    few = r.few;
    index = r.index;
    room = r.room;
    others = λ k d low. let one = all k d low in (one.0, ap (λ (v : DequeView). v.bound) one.1 ∙ sym s.1);
  },
  s.1,
)

same-others : (olds news : List StealSeat) (k : ℕ) (d : StealSeat) → map others_of news ≡ map others_of olds → others_of (get_or news k d) ≡ others_of (get_or olds k d)
same-others olds news k d e = sym (get_or-map others_of news k d) ∙ ap (λ (l : List (List Other)). get_or l k (others_of d)) e ∙ get_or-map others_of olds k d

-- those behind, and then those before
rotated : (units worker : ℕ) (olds now one two : List StealSeat) (empty middle all : List Other) → map told_of now ≡ map told_of olds → worker < length now → empty ≡ []
    → AreAdded units (worker + 1) (length now) now one empty middle → AreAdded units 0 worker one two middle all
    → map deque_of all ≡ drop (worker + 1) (deques_of olds) ++ take worker (deques_of olds)
rotated units worker olds now one two empty middle all told low none a b =
    let ids : List DequeId = deques_of olds in
    let was : deques_of now ≡ ids = same-deques olds now told in
    let then : deques_of one ≡ ids = same-deques now one a.told ∙ was in
    let long : length now ≡ length ids = sym (length-map now own_deque) ∙ ap length was in
    let behind : map deque_of middle ≡ drop (worker + 1) ids = a.deques ∙ ap (λ (l : List Other). map deque_of l ++ take (length now - (worker + 1)) (drop (worker + 1) (deques_of now))) none
    ∙ ap (λ (l : List DequeId). take (length now - (worker + 1)) (drop (worker + 1) l)) was ∙ ap (λ (n : ℕ). take (n - (worker + 1)) (drop (worker + 1) ids)) long ∙ take_rest ids (worker + 1) in
    let whole : worker - 0 ≡ worker = omega arith in
    b.deques ∙ ap (λ (n : ℕ). map deque_of middle ++ take n (deques_of one)) whole
    ∙ ap (λ (l : List DequeId). l ++ take worker (deques_of one)) behind ∙ ap (λ (l : List DequeId). drop (worker + 1) ids ++ take worker l) then

pub links : (units worker : ℕ) (olds now one two : List StealSeat) (empty middle : List Other) (others : Vec Other Global) (d : StealSeat) → AreLinked units worker olds now → worker < length now → empty ≡ []
    → AreAdded units (worker + 1) (length now) now one empty middle → AreAdded units 0 worker one two middle others.items
    → AreLinked units (worker + 1) olds (set two worker (with_others (get_or two worker d) others))
links units worker olds now one two empty middle others d t low none a b =
    let new : StealSeat = with_others (get_or two worker d) others in
    let told : map told_of two ≡ map told_of olds = b.told ∙ a.told ∙ t.told in
    let long : length two ≡ length now = same-length one two b.told ∙ same-length now one a.told in
    record {
      seats = All-set (IsSeatWith units) two worker new (with-others units (get_or two worker d) others (b.seats worker d (omega arith)) b.others) b.seats;
      told = map-set_same told_of two worker new d refl ∙ told;
      joined = λ k e less. dite (ℕ_discrete k worker)
          (λ is. let same : get_or (set two worker new) k e ≡ new = ap (λ (n : ℕ). get_or (set two worker new) n e) is ∙ get_or-set_same two worker new e (omega arith) in
          subst (IsJoined units (deques_of olds) k) (sym same)
          (subst (λ (n : ℕ). IsJoined units (deques_of olds) n new) (sym is) (rotated units worker olds now one two empty middle others.items t.told low none a b, b.others)))
          (λ ne. let same : others_of (get_or (set two worker new) k e) ≡ others_of (get_or now k e) = ap others_of (get_or-set_other two worker k new e ne) ∙ same-others one two k e b.kept ∙ same-others now one k e a.kept in
          let was = t.joined k e (omega arith) in
          (ap (map deque_of) same ∙ was.0, subst (All (IsNewOther units)) (sym same) was.1));
    }

module _ (units : ℕ) (olds news : List StealSeat) (t : AreLinked units (length olds) olds news) where
  pub as-many : length news ≡ length olds
  as-many = same-length olds news t.told

  pub joined : AreJoined news
  joined worker d low =
      let same = same-deques olds news t.told in let many = as-many in
      (t.joined worker d (omega arith)).0 ∙ ap (λ (ids : List DequeId). drop (worker + 1) ids ++ take worker ids) (sym same)

  pub new-seats : (desk : StealDesk) (workers : ℕ) → AreNewSeats desk workers olds → AreNewSeats desk workers news
  new-seats desk workers all worker d low =
      let many = as-many in
      let seat : StealSeat = get_or news worker d in
      let was : StealSeat = get_or olds worker d in
      let old = all worker d (omega arith) in
      let told : told_of seat ≡ told_of was = sym (get_or-map told_of news worker d) ∙ ap (λ (l : List (DeskPass × DequeView × DequeId)). get_or l worker (told_of d)) t.told ∙ get_or-map told_of olds worker d in
      let pass : seat.pass ≡ was.pass = ap (λ (x : DeskPass × DequeView × DequeId). x.0) told in
      let view : own_view seat ≡ own_view was = ap (λ (x : DeskPass × DequeView × DequeId). x.1) told in
      let own = view ∙ old.own in
      let with = t.seats worker d low in
      let count : seat.units ≡ units_of desk = sym with.0.bound ∙ ap (λ (v : DequeView). v.bound) own in
      let fresh = (t.joined worker d (omega arith)).1 in
      record {
        of_desk = record {
          numbers = subst (turns.IsPassOf desk.turns) (sym pass) old.of_desk.numbers;
          units = count;
          deques = with.0;
        };
        numbers = ap turns.pass_view pass ∙ old.numbers;
        own = own;
        others = λ k e less. (fresh k e less).1 ∙ ap new_pass (sym with.1 ∙ count);
      }

pub lent : (P : List StealSeat → Type 0) (n : ℕ) (olds news : List StealSeat) → length olds ≡ n → length news ≡ length olds → P news → P (take n (news ++ drop (length news) olds))
lent P n olds news long same p = subst P (sym (given-back n news olds (sym long) same)) p

-- new seats of a desk have as many units as the first of them
pub same-units : (desk : StealDesk) (workers : ℕ) (seats : List StealSeat) → AreNewSeats desk workers seats →
    All (IsSeatWith (units_among seats)) seats
same-units desk workers [] h = λ k d l. absurd (omega arith)
same-units desk workers (seat ∷ seats) h = λ k d l.
    let one = h k d l in
    let first = h 0 seat (omega arith) in
    (one.of_desk.deques, one.of_desk.units ∙ sym first.of_desk.units)
