-- Seats' views as lists of lists: sums over them, and what each of their passes is.
use Rattle.std.proofs.Common.{◌≡◌, ◌≢◌, ℕ, zero, suc, ◌+◌, ◌≤◌, Bool, true, false, cond, List, [], ◌∷◌, ◌++◌, length, set, take, drop, sum_by, count_by, ⊎_elim, refl, sym, ap, ◌∙◌, subst, arith}
use Rattle.std.specs.List.{AllByRecursion}
use Rattle.std.proofs.lemmas.List.Sums.{sum_by-cons, sum_by-append, sum_by_push, sum_by-take-drop}
use mathlib.Core.Option.{some, some-injective, some-ne-none}
use lib.ListN.{get_elem?}
use Rattle.atomic_table.proofs.Lists.{at_set}

-- sums over the views, at a seat
module _ {A : Type 0} (f : A → ℕ) where
  -- a seat's view is exchanged
  pub sum_set : (l : List A) (i : ℕ) (v w : A) → get_elem? l i ≡ some v → sum_by f (set l i w) + f v ≡ sum_by f l + f w
  sum_set [] i v w e = absurd (some-ne-none v (sym e))
  sum_set (u ∷ us) zero v w e =
      let is : f u ≡ f v = ap f (some-injective u v e) in
      let old = sum_by-cons f u us in
      let new = sum_by-cons f w us in
      omega arith
  sum_set (u ∷ us) (suc i) v w e =
      let rest = sum_set us i v w e in
      let old = sum_by-cons f u us in
      let new = sum_by-cons f u (set us i w) in
      omega arith

  -- one seat more
  pub sum_push : (l : List A) (v : A) → sum_by f (l ++ v ∷ []) ≡ sum_by f l + f v
  sum_push l v = sum_by_push f l v

  -- one seat has no more than all
  pub sum_one : (l : List A) (i : ℕ) (v : A) → get_elem? l i ≡ some v → f v ≤ sum_by f l
  sum_one [] i v e = absurd (some-ne-none v (sym e))
  sum_one (u ∷ us) zero v e =
      let is : f u ≡ f v = ap f (some-injective u v e) in
      let all = sum_by-cons f u us in
      omega arith
  sum_one (u ∷ us) (suc i) v e =
      let rest = sum_one us i v e in
      let all = sum_by-cons f u us in
      omega arith

  -- nor have two
  pub sum_two : (l : List A) (i j : ℕ) (v w : A) → j ≢ i → get_elem? l i ≡ some v → get_elem? l j ≡ some w → f v + f w ≤ sum_by f l
  sum_two [] i j v w ne e d = absurd (some-ne-none v (sym e))
  sum_two (u ∷ us) zero zero v w ne e d = absurd (ne refl)
  sum_two (u ∷ us) zero (suc j) v w ne e d =
      let is : f u ≡ f v = ap f (some-injective u v e) in
      let other = sum_one us j w d in
      let all = sum_by-cons f u us in
      omega arith
  sum_two (u ∷ us) (suc i) zero v w ne e d =
      let is : f u ≡ f w = ap f (some-injective u w d) in
      let other = sum_one us i v e in
      let all = sum_by-cons f u us in
      omega arith
  sum_two (u ∷ us) (suc i) (suc j) v w ne e d =
      let rest = sum_two us i j v w (λ k. ne (ap suc k)) e d in
      let all = sum_by-cons f u us in
      omega arith

  -- a list cut in two has as much in both
  pub sum_cut : (n : ℕ) (l : List A) → sum_by f (take n l) + sum_by f (drop n l) ≡ sum_by f l
  sum_cut n l = sum_by-take-drop f l n

-- what is below another at each seat is so in all
pub sum_below : {A : Type 0} (f g : A → ℕ) → ((v : A) → f v ≤ g v) → (l : List A) → sum_by f l ≤ sum_by g l
sum_below f g each [] = omega arith
sum_below f g each (u ∷ us) =
    let first = each u in
    let rest = sum_below f g each us in
    let low = sum_by-cons f u us in
    let high = sum_by-cons g u us in
    omega arith

one-most : (b : Bool) → ◌≤◌ (cond b 1 0) 1
one-most true = omega arith
one-most false = omega arith

unpassed : (b : Bool) → ◌≡◌ {A = ℕ} (cond b 1 0) 0 → b ≡ false
unpassed true e = absurd (omega arith)
unpassed false e = refl

-- how many of a list pass a test
module _ {A : Type 0} (p : A → Bool) where
  pub count_append : (k l : List A) → count_by p (k ++ l) ≡ count_by p k + count_by p l
  count_append k l = sum_by-append (λ x. cond (p x) 1 0) k l

  pub count_cut : (n : ℕ) (l : List A) → count_by p (take n l) + count_by p (drop n l) ≡ count_by p l
  count_cut n l = sum_by-take-drop (λ x. cond (p x) 1 0) l n

  pub count_one : (v : A) → count_by p (v ∷ []) ≡ cond (p v) 1 0
  count_one v = sum_by-cons (λ x. cond (p x) 1 0) v [] ∙ omega arith

  pub count_most : (l : List A) → count_by p l ≤ length l
  count_most [] = omega arith
  count_most (u ∷ us) =
      let first = one-most (p u) in
      let rest = count_most us in
      let all = sum_by-cons (λ x. cond (p x) 1 0) u us in
      omega arith

  pub count_yes : (v : A) → p v ≡ true → count_by p (v ∷ []) ≡ 1
  count_yes v e = count_one v ∙ ap (λ b. cond b 1 0) e

  pub count_none : (l : List A) → count_by p l ≡ 0 → AllByRecursion (λ v. p v ≡ false) l
  count_none [] none = tt
  count_none (v ∷ l) none =
      let all = sum_by-cons (λ x. cond (p x) 1 0) v l in
      (unpassed (p v) (omega arith), count_none l (omega arith))

  pub count_no : (v : A) → p v ≡ false → count_by p (v ∷ []) ≡ 0
  count_no v e = count_one v ∙ ap (λ b. cond b 1 0) e

-- what is so of each
module _ {A : Type 0} (P : A → Type 0) where
  pub all_one : (l : List A) (i : ℕ) (v : A) → get_elem? l i ≡ some v → AllByRecursion P l → P v
  all_one [] i v e all = absurd (some-ne-none v (sym e))
  all_one (u ∷ us) zero v e all = subst P (some-injective u v e) all.0
  all_one (u ∷ us) (suc i) v e all = all_one us i v e all.1

  pub all_set : (l : List A) (i : ℕ) (w : A) → AllByRecursion P l → P w → AllByRecursion P (set l i w)
  all_set [] i w all is = all
  all_set (u ∷ us) zero w all is = (is, all.1)
  all_set (u ∷ us) (suc i) w all is = (all.0, all_set us i w all.1 is)

  pub all_append : (k l : List A) → AllByRecursion P k → AllByRecursion P l → AllByRecursion P (k ++ l)
  all_append [] l first then = then
  all_append (u ∷ us) l first then = (first.0, all_append us l first.1 then)

  pub all_push : (l : List A) (v : A) → AllByRecursion P l → P v → AllByRecursion P (l ++ v ∷ [])
  all_push l v all is = all_append l (v ∷ []) all (is, tt)

  pub all_take : (n : ℕ) (l : List A) → AllByRecursion P l → AllByRecursion P (take n l)
  all_take zero l all = tt
  all_take (suc n) [] all = tt
  all_take (suc n) (u ∷ us) all = (all.0, all_take n us all.1)

  pub all_drop : (n : ℕ) (l : List A) → AllByRecursion P l → AllByRecursion P (drop n l)
  all_drop zero l all = all
  all_drop (suc n) [] all = tt
  all_drop (suc n) (u ∷ us) all = all_drop n us all.1

-- by what another is, or by what is so at each place
pub all_other : {A : Type 0} (P Q : A → Type 0) (l : List A) → ((v : A) → P v → Q v) → AllByRecursion P l → AllByRecursion Q l
all_other P Q [] same all = tt
all_other P Q (u ∷ us) same all = (same u all.0, all_other P Q us same all.1)

pub all_places : {A : Type 0} (P : A → Type 0) (l : List A) → ((i : ℕ) (v : A) → get_elem? l i ≡ some v → P v) → AllByRecursion P l
all_places P [] each = tt
all_places P (u ∷ us) each = (each 0 u refl, all_places P us (λ i v e. each (suc i) v e))

-- the others stay what they are, where one is exchanged
pub all_exchanged : {A : Type 0} (P : A → Type 0) (l : List A) (i : ℕ) (w : A) →
    ((j : ℕ) (v : A) → j ≢ i → get_elem? l j ≡ some v → P v) → P w → AllByRecursion P (set l i w)
all_exchanged P l i w others own = all_places P (set l i w) (λ j v e. ⊎_elim
    (λ (t : (j ≡ i) × (w ≡ v)). subst P t.1 own)
    (λ (t : (j ≢ i) × (get_elem? l j ≡ some v)). others j v t.0 t.1)
    (at_set l i j w v e))

-- two facts of each
pub all_both : {A : Type 0} (P Q R : A → Type 0) (l : List A) → ((v : A) → P v → Q v → R v) → AllByRecursion P l → AllByRecursion Q l → AllByRecursion R l
all_both P Q R [] both first second = tt
all_both P Q R (v ∷ l) both first second = (both v first.0 second.0, all_both P Q R l both first.1 second.1)
