-- The other deques are tried in their order.
use Rattle.std.proofs.Common.{◌≡◌, ◌≢◌, ℕ, ◌+◌, ◌<◌, List, ◌++◌, length, set, take, drop, get_or, ⊎_elim, sym, ap, ◌∙◌, subst, arith, length-set}
use Rattle.std.proofs.lemmas.List.{append-nil, take_all, get_or_default}
use Rattle.std.proofs.lemmas.List.Elements.{All-set}
use Rattle.std.proofs.Math.ListN.{drop_of_length-le}
use Rattle.std.proofs.Math.Seq.{map-set_same}
use mathlib.Core.Option.{some, some-injective}
use lib.ListN.{get_elem?}
use Rattle.crossbeam_deque.specs.Handles.{stealer_deque}
use Rattle.crossbeam_deque.proofs.Lists.{at_set, at_index, set_here, set_else}
use Rattle.steal_desk.specs.declared.seats.Other.{Other}
use Rattle.steal_desk.specs.declared.view.DequeView.{DequeView}
use Rattle.steal_desk.specs.Deques.{Took}
use Rattle.steal_desk.specs.Seats.{HasPass, IsOther, deque_of, other_view}
use Rattle.steal_desk.specs.Steps.{AreKept, AreTried, HaveGiven}
use Rattle.steal_desk.specs.Taking.{FindsNone, FindNone}

-- a turn of the loop: the deque at i is tried, where the first i gave no unit
module _ (units i : ℕ) (olds now : List Other) (d new : Other) (t : AreTried units i olds now) (low : i < length now) (pass : HasPass new) (same : new.stealer ≡ (get_or now i d).stealer) where
  abbrev old : Other
  old = get_or now i d

  tried : get_elem? olds i ≡ some old
  tried = sym (t.rest i (omega arith)) ∙ at_index now i old low (get_or_default now i d old low)

  before : FindNone i olds (set now i new)
  before j o p less was there = ⊎_elim
      (λ (x : (j ≡ i) × (new ≡ p)). let e = x.0 in absurd (omega arith))
      (λ (x : (j ≢ i) × (get_elem? now j ≡ some p)). t.none j o p less was x.1)
      (at_set now i j new p there)

  after : (j : ℕ) → i < j → get_elem? (set now i new) j ≡ get_elem? olds j
  after j le = set_else now i j new (λ e. omega arith) ∙ t.rest j (omega arith)

  kept : (other_view new).bound ≡ (other_view old).bound → AreKept units olds (set now i new)
  kept bound = record {
    others = All-set (IsOther units) now i new (pass, bound ∙ (t.kept.others i d low).1) t.kept.others;
    long = length-set now i new ∙ t.kept.long;
    deques = map-set_same deque_of now i new d (ap stealer_deque same) ∙ t.kept.deques;
  }

  pub tries-next : FindsNone old new → AreTried units (i + 1) olds (set now i new)
  tries-next found = record {
    kept = kept (ap (λ (v : DequeView). v.bound) found.0);
    none = λ j o p less was there. ⊎_elim
        (λ (x : (j ≡ i) × (new ≡ p)).
        let same' : old ≡ o = some-injective old o (sym tried ∙ ap (get_elem? olds) (sym x.0) ∙ was) in
        subst (λ (q : Other). FindsNone o q) x.1 (subst (λ (q : Other). FindsNone q new) same' found))
        (λ (x : (j ≢ i) × (get_elem? now j ≡ some p)). let ne = x.0 in t.none j o p (omega arith) was x.1)
        (at_set now i j new p there);
    rest = λ j le. after j (omega arith);
  }

  pub gives : (unit : ℕ) → Took (other_view old) unit (other_view new) → HaveGiven units unit olds (set now i new)
  gives unit took = record {
    kept = kept (ap (λ (v : DequeView). v.bound) took.3);
    below = let b = (t.kept.others i d low).1 in let l = took.2 in omega arith;
    steals = (i, (before, (old, new, tried, set_here now i new low, took), after));
  }

-- a list that was lent and came back
pub given-back : {X : Type 0} (n : ℕ) (now olds : List X) → n ≡ length olds → length now ≡ length olds → take n (now ++ drop (length now) olds) ≡ now
given-back {X = X} n now olds long same =
    ap (λ (l : List X). take n (now ++ l)) (drop_of_length-le olds {i = length now} (omega arith)) ∙ ap (take n) (append-nil now) ∙ take_all n now (omega arith)

pub given : (units unit n : ℕ) (olds news items : List Other) → olds ≡ items → length olds ≡ n → HaveGiven units unit olds news → HaveGiven units unit items (take n (news ++ drop (length news) items))
given units unit n olds news items is long g =
    let h : HaveGiven units unit items news = subst (λ (l : List Other). HaveGiven units unit l news) is g in
    let long' : length olds ≡ length items = ap length is in
    let back : length news ≡ length items = h.kept.long in
    subst (HaveGiven units unit items) (sym (given-back n news items (omega arith) back)) h
