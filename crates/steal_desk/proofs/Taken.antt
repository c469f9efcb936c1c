-- Each step of a pass keeps the rule of its deque.
use Rattle.std.proofs.Common.{◌≡◌, ◌≢◌, ℕ, zero, suc, ◌+◌, ◌<◌, ◌≤◌, min, eqb, eq-eqb, ne_eqb, List, [], ◌∷◌, ◌++◌, length, set, ⊎_elim, refl, sym, ap, ◌∙◌, subst, arith, append_assoc, length-append, lt_of_not-le}
use Rattle.std.proofs.lemmas.List.{map-append, get_or_at, get_or_append_left}
use mathlib.Core.Logic.{dite}
use mathlib.Core.Option.{some, some-injective, some-ne-none}
use native.Mathlib.Decide.{ℕ_discrete}
use lib.ListN.{get_elem?}
use Rattle.crossbeam_deque.specs.Tasks.{Pushes, Takes, Finds, FindsFew, Forks}
use Rattle.crossbeam_deque.proofs.Lists.{at_set, at_snoc, set_again}
use Rattle.turn_desk.specs.Turns.{AllBelow, one_if, times}
use Rattle.steal_desk.specs.declared.view.Taking.{Taking}
use Rattle.steal_desk.specs.declared.view.DequeView.{DequeView}
use Rattle.steal_desk.specs.Deques.{new_pass, opening_view, places_of, times_taken, owner_of, pushed_of, Stands, AllStand, AllAbove, Rising, Knows, TakenInOrder, WasEmpty, with_pushed, with_taken}
use Rattle.steal_desk.specs.Steps.{pushed, stolen, popped, with_one_less}

-- how often one number stands where another was added
hit : (n x : ℕ) → n ≡ x → one_if (eqb n x) ≡ 1
hit n x e = ap one_if (eq-eqb n x e)

miss : (n x : ℕ) → n ≢ x → one_if (eqb n x) ≡ 0
miss n x ne = ap one_if (ne_eqb n x ne)

times-push : (x : ℕ) (l : List ℕ) (n : ℕ) → times x (l ++ n ∷ []) ≡ times x l + one_if (eqb n x)
times-push x [] n = omega arith
times-push x (y ∷ ys) n = let r = times-push x ys n in omega arith

-- a list that has no number from n on
all_below : (n : ℕ) (l : List ℕ) → ((x : ℕ) → n ≤ x → times x l ≡ 0) → AllBelow n l
all_below n [] out = tt
all_below n (y ∷ ys) out = (
  lt_of_not-le (λ le. let z = out y le in let h = hit y y refl in omega arith),
  all_below n ys (λ x le. let z = out x le in omega arith),
)

below-push : (n : ℕ) (l : List ℕ) (x : ℕ) → AllBelow n l → x < n → AllBelow n (l ++ x ∷ [])
below-push n [] x all low = (low, tt)
below-push n (y ∷ ys) x all low = (all.0, below-push n ys x all.1 low)

below-at : (n : ℕ) (front : List ℕ) (x : ℕ) (rest : List ℕ) → AllBelow n (front ++ x ∷ rest) → x < n
below-at n [] x rest all = all.0
below-at n (y ∷ ys) x rest all = below-at n ys x rest all.1

above-push : (n : ℕ) (l : List ℕ) (x : ℕ) → AllAbove n l → n < x → AllAbove n (l ++ x ∷ [])
above-push n [] x all low = (low, tt)
above-push n (y ∷ ys) x all low = (all.0, above-push n ys x all.1 low)

rising-push : (l : List ℕ) (x : ℕ) → Rising l → AllBelow x l → Rising (l ++ x ∷ [])
rising-push [] x up all = (tt, tt)
rising-push (y ∷ ys) x up all = (above-push y ys x up.0 all.0, rising-push ys x up.1 all.1)

places-push : (v : DequeView) (place unit : ℕ) → places_of (with_taken v place unit) ≡ places_of v ++ place ∷ []
places-push v place unit = map-append (λ (t : Taking). t.place) v.taken (record { place = place; unit = unit } ∷ [])

-- what stands there stays there
stands-push : (l : List ℕ) (x : ℕ) (t : Taking) → Stands l t → Stands (l ++ x ∷ []) t
stands-push l x t s = let n : length (l ++ x ∷ []) ≡ length l + 1 = length-append l (x ∷ []) in (omega arith, get_or_append_left l (x ∷ []) 0 t.place s.0 ∙ s.1)

all_stand-push : (l : List ℕ) (x : ℕ) (ts : List Taking) → AllStand l ts → AllStand (l ++ x ∷ []) ts
all_stand-push l x [] all = tt
all_stand-push l x (t ∷ ts) all = (stands-push l x t all.0, all_stand-push l x ts all.1)

all_stand-one : (l : List ℕ) (ts : List Taking) (t : Taking) → AllStand l ts → Stands l t → AllStand l (ts ++ t ∷ [])
all_stand-one l [] t all s = (s, tt)
all_stand-one l (u ∷ us) t all s = (all.0, all_stand-one l us t all.1 s)

stands-behind : (front : List ℕ) (x : ℕ) (rest : List ℕ) → Stands (front ++ x ∷ rest) (record { place = length front; unit = x })
stands-behind front x rest = let n : length (front ++ x ∷ rest) ≡ length front + length (x ∷ rest) = length-append front (x ∷ rest) in (omega arith, get_or_at front x rest 0 (length front) refl)

-- how often a place was taken, where one pass's view changes and where a pass comes
times_taken-set : (x : ℕ) (l : List DequeView) (i : ℕ) (v w : DequeView) → get_elem? l i ≡ some v → times_taken x (set l i w) + times x (places_of v) ≡ times_taken x l + times x (places_of w)
times_taken-set x [] i v w e = absurd (some-ne-none v (sym e))
times_taken-set x (u ∷ us) zero v w e = let is : times x (places_of u) ≡ times x (places_of v) = ap (λ (p : DequeView). times x (places_of p)) (some-injective u v e) in omega arith
times_taken-set x (u ∷ us) (suc i) v w e = let r = times_taken-set x us i v w e in omega arith

times_taken-push : (x : ℕ) (l : List DequeView) (v : DequeView) → times_taken x (l ++ v ∷ []) ≡ times_taken x l + times x (places_of v)
times_taken-push x [] v = omega arith
times_taken-push x (u ∷ us) v = let r = times_taken-push x us v in omega arith

times_taken-one : (x : ℕ) (l : List DequeView) (i : ℕ) (v : DequeView) → get_elem? l i ≡ some v → times x (places_of v) ≤ times_taken x l
times_taken-one x [] i v e = absurd (some-ne-none v (sym e))
times_taken-one x (u ∷ us) zero v e = let is : times x (places_of u) ≡ times x (places_of v) = ap (λ (p : DequeView). times x (places_of p)) (some-injective u v e) in omega arith
times_taken-one x (u ∷ us) (suc i) v e = let r = times_taken-one x us i v e in omega arith

-- the owner, where one pass's view changes and where a pass comes
pushed-set : (l : List DequeView) (i : ℕ) (v w : DequeView) → get_elem? l i ≡ some v → w.pushed ≡ v.pushed → pushed_of (set l i w) ≡ pushed_of l
pushed-set [] i v w at e = refl
pushed-set (u ∷ us) zero v w at e = e ∙ ap (λ (p : DequeView). p.pushed) (sym (some-injective u v at))
pushed-set (u ∷ us) (suc i) v w at e = refl

bound-set : (l : List DequeView) (i : ℕ) (v w : DequeView) → get_elem? l i ≡ some v → w.bound ≡ v.bound → (owner_of (set l i w)).bound ≡ (owner_of l).bound
bound-set [] i v w at e = refl
bound-set (u ∷ us) zero v w at e = e ∙ ap (λ (p : DequeView). p.bound) (sym (some-injective u v at))
bound-set (u ∷ us) (suc i) v w at e = refl

owner-push : (l : List DequeView) (i : ℕ) (v u : DequeView) → get_elem? l i ≡ some v → owner_of (l ++ u ∷ []) ≡ owner_of l
owner-push [] i v u at = absurd (some-ne-none v (sym at))
owner-push (w ∷ ws) i v u at = refl

-- what holds of each pass
each-set : (F : DequeView → Type 0) (l : List DequeView) (i : ℕ) (w : DequeView) → F w → ((k : ℕ) (v : DequeView) → get_elem? l k ≡ some v → F v)
    → (k : ℕ) (v : DequeView) → get_elem? (set l i w) k ≡ some v → F v
each-set F l i w own others k v at = ⊎_elim
    (λ (t : (k ≡ i) × (w ≡ v)). subst F t.1 own)
    (λ (t : (k ≢ i) × (get_elem? l k ≡ some v)). others k v t.1)
    (at_set l i k w v at)

each-push : (F : DequeView → Type 0) (l : List DequeView) (u : DequeView) → F u → ((k : ℕ) (v : DequeView) → get_elem? l k ≡ some v → F v)
    → (k : ℕ) (v : DequeView) → get_elem? (l ++ u ∷ []) k ≡ some v → F v
each-push F l u own others k v at = ⊎_elim (λ (was : get_elem? l k ≡ some v). others k v was) (λ (is : u ≡ v). subst F is own) (at_snoc l u v k at)

-- a pass that has taken nothing
knows-new : (l : List ℕ) (least bound : ℕ) → AllBelow bound l → least ≤ bound → Knows l least (new_pass bound)
knows-new l least bound all le = record { stand = tt; rising = tt; below = all; bound = le }

knows-pushed : (l : List ℕ) (least x : ℕ) (v : DequeView) → x < least → Knows l least v → Knows (l ++ x ∷ []) least v
knows-pushed l least x v low k = let le = k.bound in record {
  stand = all_stand-push l x v.taken k.stand;
  rising = k.rising;
  below = below-push v.bound l x k.below (omega arith);
  bound = k.bound;
}

knows-taken : (l : List ℕ) (least place unit : ℕ) (v : DequeView) → AllBelow place (places_of v) → Stands l (record { place = place; unit = unit }) → Knows l least v → Knows l least (with_taken v place unit)
knows-taken l least place unit v all s k = record {
  stand = all_stand-one l v.taken (record { place = place; unit = unit }) k.stand s;
  rising = subst Rising (sym (places-push v place unit)) (rising-push (places_of v) place k.rising all);
  below = k.below;
  bound = k.bound;
}

-- the owner pushes a unit
pub pushes : (port : ℕ) (v : DequeView) (x : ℕ) → port ≡ 0 → x < v.bound → Pushes TakenInOrder port v (x ∷ []) (pushed v (x ∷ []))
pushes (suc port) v x is low items views r at = absurd (omega arith)
pushes zero v x is low items [] r at = absurd (some-ne-none v (sym at))
pushes zero v x is low items (u ∷ us) r at =
    let w : DequeView = with_pushed v x in
    let same : u ≡ v = some-injective u v at in
    let few : x < u.bound = subst (λ (p : DequeView). x < p.bound) (sym same) low in
    let Now : DequeView → Type 0 = Knows (u.pushed ++ x ∷ []) u.bound in
    let now : (k : ℕ) (p : DequeView) → get_elem? (u ∷ us) k ≡ some p → Now p = λ k p there. knows-pushed u.pushed u.bound x p few (r.each k p there) in
    let mine : Now w = let old = now 0 u refl in subst (λ (p : DequeView). Now (with_pushed p x)) same (record { stand = old.stand; rising = old.rising; below = old.below; bound = old.bound }) in
    let all : (k : ℕ) (p : DequeView) → get_elem? (w ∷ us) k ≡ some p → Now p = each-set Now (u ∷ us) 0 w mine now in (
      w,
      record {
        gone = r.gone;
        pushed = ap (λ (p : DequeView). p.pushed ++ x ∷ []) (sym same) ∙ ap (λ (l : List ℕ). l ++ x ∷ []) r.pushed ∙ append_assoc r.gone items (x ∷ []);
        once = λ place low'. let sums = times_taken-set place (u ∷ us) 0 v w at in let one = r.once place low' in omega arith;
        no_other = λ place out. let sums = times_taken-set place (u ∷ us) 0 v w at in let none = r.no_other place out in omega arith;
        each = subst (λ (p : DequeView). (k : ℕ) (q : DequeView) → get_elem? (w ∷ us) k ≡ some q → Knows (p.pushed ++ x ∷ []) p.bound q) same all;
      },
      refl,
    )

-- a pass takes the unit at the front: its place is the number of those that are gone
takes : (port x : ℕ) (v : DequeView) (items : List ℕ) (views : List DequeView) (r : TakenInOrder (x ∷ items) views) → get_elem? views port ≡ some v
    → TakenInOrder items (set views port (with_taken v (length r.gone) x)) × AllBelow (length r.gone) (places_of v) × Stands (pushed_of views) (record { place = length r.gone; unit = x }) × (x < v.bound)
takes port x v items views r at =
    let n : ℕ = length r.gone in
    let w : DequeView = with_taken v n x in
    let long : length (r.gone ++ x ∷ []) ≡ n + 1 = length-append r.gone (x ∷ []) in
    let was : pushed_of (set views port w) ≡ pushed_of views = pushed-set views port v w at refl in
    let least : (owner_of (set views port w)).bound ≡ (owner_of views).bound = bound-set views port v w at refl in
    let there : Stands (pushed_of views) (record { place = n; unit = x }) = subst (λ (l : List ℕ). Stands l (record { place = n; unit = x })) (sym r.pushed) (stands-behind r.gone x items) in
    let behind : AllBelow n (places_of v) = all_below n (places_of v) (λ place le. let none = r.no_other place le in let one = times_taken-one place views port v at in omega arith) in
    let Now : DequeView → Type 0 = Knows (pushed_of views) (owner_of views).bound in
    let all : (k : ℕ) (p : DequeView) → get_elem? (set views port w) k ≡ some p → Now p = each-set Now views port w (knows-taken (pushed_of views) (owner_of views).bound n x v behind there (r.each port v at)) r.each in
    let more : (place : ℕ) → times place (places_of w) ≡ times place (places_of v) + one_if (eqb n place) = λ place. ap (times place) (places-push v n x) ∙ times-push place (places_of v) n in (
      record {
        gone = r.gone ++ x ∷ [];
        pushed = was ∙ r.pushed ∙ sym (append_assoc r.gone (x ∷ []) items);
        once = λ place low. let sums = times_taken-set place views port v w at in let p = more place in dite (ℕ_discrete n place)
            (λ e. let h = hit n place e in let none = r.no_other place (omega arith) in omega arith)
            (λ ne. let h = miss n place ne in let one = r.once place (omega arith) in omega arith);
        no_other = λ place out. let sums = times_taken-set place views port v w at in let p = more place in
            let ne : n ≢ place = λ (e : n ≡ place). omega arith in let h = miss n place ne in let none = r.no_other place (omega arith) in omega arith;
        each = λ k p q. subst (λ (b : ℕ). Knows (pushed_of (set views port w)) b p) (sym least) (subst (λ (l : List ℕ). Knows l (owner_of views).bound p) (sym was) (all k p q));
      },
      behind,
      there,
      below-at v.bound r.gone x items (subst (AllBelow v.bound) r.pushed (r.each port v at).below),
    )

pub steals : (port : ℕ) (v : DequeView) → Takes TakenInOrder port v 1 (stolen v)
steals port v [] items views some_one one r at = absurd (omega arith)
steals port v (x ∷ y ∷ ys) items views some_one one r at = absurd (omega arith)
steals port v (x ∷ []) items views some_one one r at = let t = takes port x v items views r at in
    (with_taken v (length r.gone) x, t.0, (length r.gone, t.1, t.3, refl))

owner-at : (l : List DequeView) (v : DequeView) → get_elem? l 0 ≡ some v → owner_of l ≡ v
owner-at [] v at = absurd (some-ne-none v (sym at))
owner-at (u ∷ us) v at = some-injective u v at

pub pops : (port : ℕ) (v : DequeView) → port ≡ 0 → Takes TakenInOrder port v 1 (popped v)
pops (suc port) v is xs items views some_one one r at = absurd (omega arith)
pops zero v is [] items views some_one one r at = absurd (omega arith)
pops zero v is (x ∷ y ∷ ys) items views some_one one r at = absurd (omega arith)
pops zero v is (x ∷ []) items views some_one one r at = let t = takes 0 x v items views r at in
    (with_taken v (length r.gone) x, t.0, (t.3, (length r.gone, t.1, subst (λ (p : DequeView). Stands p.pushed (record { place = length r.gone; unit = x })) (owner-at views v at) t.2, refl)))

pub finds : (port : ℕ) (v : DequeView) → Finds TakenInOrder port v (WasEmpty v)
finds port v views r at = (views, port, r, at)

pub finds_few : (flavor port : ℕ) (v : DequeView) → flavor ≡ 0 → FindsFew TakenInOrder (min flavor 1) port v (WasEmpty v)
finds_few flavor port v is [] views few r at = (views, port, r, at)
finds_few flavor port v is (x ∷ xs) views few r at = absurd (omega arith)

-- a new pass is cut off one
cut-new : (items : List ℕ) (views : List DequeView) (k : ℕ) (v : DequeView) (bound : ℕ) → get_elem? views k ≡ some v → AllBelow bound (pushed_of views) → (owner_of views).bound ≤ bound
    → TakenInOrder items views → TakenInOrder items (views ++ new_pass bound ∷ [])
cut-new items views k v bound at all le r =
    let u : DequeView = new_pass bound in
    let same : owner_of (views ++ u ∷ []) ≡ owner_of views = owner-push views k v u at in
    record {
      gone = r.gone;
      pushed = ap (λ (p : DequeView). p.pushed) same ∙ r.pushed;
      once = λ place low. let p = times_taken-push place views u in let one = r.once place low in omega arith;
      no_other = λ place out. let p = times_taken-push place views u in let none = r.no_other place out in omega arith;
      each = subst (λ (p : DequeView). (j : ℕ) (q : DequeView) → get_elem? (views ++ u ∷ []) j ≡ some q → Knows p.pushed p.bound q) (sym same)
          (each-push (Knows (pushed_of views) (owner_of views).bound) views u (knows-new (pushed_of views) (owner_of views).bound bound all le) r.each);
    }

pub cuts : (port : ℕ) (v : DequeView) → Forks TakenInOrder port v v (new_pass v.bound)
cuts port v items views r at = subst (λ (l : List DequeView). TakenInOrder items (l ++ new_pass v.bound ∷ [])) (sym (set_again views port v at))
    (cut-new items views port v v.bound at (r.each port v at).below (r.each port v at).bound r)

-- the owner of an empty deque is told of one unit less
less : (items : List ℕ) (u : DequeView) (us : List DequeView) → u.pushed ≡ [] → TakenInOrder items (u ∷ us) → TakenInOrder items (with_one_less u ∷ us)
less items u us none r =
    let w : DequeView = with_one_less u in
    let Now : DequeView → Type 0 = Knows u.pushed w.bound in
    let low : (b : ℕ) → AllBelow b u.pushed = λ b. subst (AllBelow b) (sym none) tt in
    let now : (k : ℕ) (p : DequeView) → get_elem? (u ∷ us) k ≡ some p → Now p = λ k p there. let old = r.each k p there in let le = old.bound in
    record { stand = old.stand; rising = old.rising; below = old.below; bound = omega arith } in
    let mine : Now w = let old = r.each 0 u refl in record { stand = old.stand; rising = old.rising; below = low w.bound; bound = omega arith } in
    record {
      gone = r.gone;
      pushed = r.pushed;
      once = λ place low'. r.once place low';
      no_other = λ place out. r.no_other place out;
      each = each-set Now (u ∷ us) 0 w mine now;
    }

pub tells_less : (port : ℕ) (v : DequeView) → port ≡ 0 → v.pushed ≡ [] → Forks TakenInOrder port v (with_one_less v) (new_pass v.bound)
tells_less (suc port) v is none items views r at = absurd (omega arith)
tells_less zero v is none items [] r at = absurd (some-ne-none v (sym at))
tells_less zero v is none items (u ∷ us) r at =
    let same : u ≡ v = some-injective u v at in
    subst (λ (p : DequeView). TakenInOrder items (with_one_less p ∷ us ++ new_pass p.bound ∷ [])) same
    (let none' : u.pushed ≡ [] = ap (λ (p : DequeView). p.pushed) same ∙ none in
    cut-new items (with_one_less u ∷ us) 0 (with_one_less u) u.bound refl (subst (AllBelow u.bound) (sym none') tt) (omega arith) (less items u us none' r))

pub begins : TakenInOrder [] (opening_view ∷ [])
begins = record {
  gone = [];
  pushed = refl;
  once = λ place low. absurd (omega arith);
  no_other = λ place out. refl;
  each = each-set (Knows [] 256) (opening_view ∷ []) 0 opening_view (knows-new [] 256 256 tt (omega arith)) one;
}
  where
    one : (k : ℕ) (v : DequeView) → get_elem? (opening_view ∷ []) k ≡ some v → Knows [] 256 v
    one zero v e = subst (Knows [] 256) (some-injective opening_view v e) (knows-new [] 256 256 tt (omega arith))
    one (suc k) v e = absurd (some-ne-none v (sym e))
