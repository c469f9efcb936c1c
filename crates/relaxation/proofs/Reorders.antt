-- Lists that are one another in another order, element by element.
use Rattle.std.proofs.Common.{◌≡◌, ℕ, zero, suc, ◌<◌, Bool, true, false, cond, List, [], ◌∷◌, length, get_or, set, swap, filter, IsPermutation, refl, sym, ap, subst, not-suc-le-zero, le_of_suc-le-suc}
use Rattle.std.proofs.lemmas.List.Sorted.{IsPermutation-keeps}

-- the first list without one x is the second
pub data Takes {X : Type 0} (x : X) : List X → List X → Type 0 where
  here : {xs : List X} → Takes x (x ∷ xs) xs
  there : {y : X} {xs ys : List X} → Takes x xs ys → Takes x (y ∷ xs) (y ∷ ys)

-- the second list takes each element of the first, one after another
pub data Reorders {X : Type 0} : List X → List X → Type 0 where
  none : Reorders [] []
  next : {y : X} {xs rest ys : List X} → Takes y xs rest → Reorders rest ys → Reorders xs (y ∷ ys)

module _ {X : Type 0} where
  -- a list reorders itself
  itself : (xs : List X) → Reorders xs xs
  itself [] = none
  itself (x ∷ xs) = next here (itself xs)

  -- two elements are taken in either turn
  other_turn : {x y : X} {xs ys zs : List X} → Takes x xs ys → Takes y ys zs → (ws : List X) × Takes y xs ws × Takes x ws zs
  other_turn {x} {zs} here t = (x ∷ zs, there t, here)
  other_turn (there t) here = (_, here, t)
  other_turn (there {y = a} t) (there s) = let w = other_turn t s in (a ∷ w.0, there w.1, there w.2)

  -- what is taken from a reordered list is taken from the list
  taken : {y : X} {xs ys rest : List X} → Reorders xs ys → Takes y ys rest → (zs : List X) × Takes y xs zs × Reorders zs rest
  taken none s = elim s [ ]
  taken (next t r) here = (_, t, r)
  taken (next t r) (there s) = let q = taken r s in let w = other_turn t q.1 in (w.0, w.1, next w.2 q.2)

  -- one order after another is an order
  through : {ys zs : List X} → Reorders ys zs → {xs : List X} → Reorders xs ys → Reorders xs zs
  through none p = p
  through (next t r) p = let q = taken p t in next q.1 (through r q.2)

  -- an element goes out, and x stands at its place
  put : (d x : X) (l : List X) (j : ℕ) → j < length l → (rest : List X) × Takes (get_or l j d) l rest × Reorders (x ∷ rest) (set l j x)
  put d x [] j h = absurd (not-suc-le-zero h)
  put d x (y ∷ l) zero h = (l, here, itself (x ∷ l))
  put d x (y ∷ l) (suc j) h = let q = put d x l j (le_of_suc-le-suc h) in (y ∷ q.0, there q.1, next (there here) q.2)

  -- an exchange is an order
  exchanged : (d : X) (l : List X) (i j : ℕ) → i < length l → j < length l → Reorders l (set (set l i (get_or l j d)) j (get_or l i d))
  exchanged d [] i j h k = absurd (not-suc-le-zero h)
  exchanged d (x ∷ l) zero zero h k = itself (x ∷ l)
  exchanged d (x ∷ l) zero (suc j) h k = let q = put d x l j (le_of_suc-le-suc k) in next (there q.1) q.2
  exchanged d (x ∷ l) (suc i) zero h k = let q = put d x l i (le_of_suc-le-suc h) in next (there q.1) q.2
  exchanged d (x ∷ l) (suc i) (suc j) h k = next here (exchanged d l i j (le_of_suc-le-suc h) (le_of_suc-le-suc k))

  -- so is that of std
  swapped : (l : List X) (i j : ℕ) → i < length l → j < length l → Reorders l (swap l i j)
  swapped [] i j h k = none
  swapped (d ∷ l) i j h k = exchanged d (d ∷ l) i j h k

  -- so is a permutation
  pub reordered : (xs ys : List X) → IsPermutation xs ys → Reorders xs ys
  reordered xs ys h = IsPermutation-keeps xs (λ l. Reorders xs l) (itself xs) (λ l i j p q r. through (swapped l i j p q) r) ys h

module _ {X : Type 0} (p : X → Bool) where
  -- a filter leaves what it passes, and does not see the rest
  there-cond : (b : Bool) (y : X) {x : X} {us vs : List X} → Takes x us vs → Takes x (cond b (y ∷ us) us) (cond b (y ∷ vs) vs)
  there-cond true y t = there t
  there-cond false y t = t

  -- an element that passes is taken from the filter
  taken-yes : {x : X} {xs ys : List X} → p x ≡ true → Takes x xs ys → Takes x (filter p xs) (filter p ys)
  taken-yes e here = rw e here
  taken-yes e (there {y} t) = there-cond (p y) y (taken-yes e t)

  -- one that does not pass changes nothing there
  taken-no : {x : X} {xs ys : List X} → p x ≡ false → Takes x xs ys → filter p xs ≡ filter p ys
  taken-no e here = rw e refl
  taken-no e (there {y} t) = ap (λ l. cond (p y) (y ∷ l) l) (taken-no e t)

  -- one element of an order after a filter
  next-cond : (b : Bool) {y : X} {xs rest ys : List X} → p y ≡ b → Takes y xs rest → Reorders (filter p rest) ys → Reorders (filter p xs) (cond b (y ∷ ys) ys)
  next-cond true e t r = next (taken-yes e t) r
  next-cond false {ys} e t r = subst (λ l. Reorders l ys) (sym (taken-no e t)) r

  -- the filter of a reordered list reorders the filter
  pub reorders-filter : {xs ys : List X} → Reorders xs ys → Reorders (filter p xs) (filter p ys)
  reorders-filter none = none
  reorders-filter (next {y} t r) = next-cond (p y) refl t (reorders-filter r)
