-- Lists in order by a number of each element.
use Rattle.std.proofs.Common.{◌≡◌, ℕ, suc, ◌<◌, ◌≤◌, Bool, true, false, cond, List, [], ◌∷◌, length, map, get_or, filter, refl, ap, arith}
use Rattle.relaxation.proofs.Reorders.{Takes, here, there, Reorders, none, next}

-- no element is below k
abbrev pub NoneBelow : {X : Type 0} → (X → ℕ) → ℕ → List X → Type 0
NoneBelow n k [] = Unit {0}
NoneBelow n k (x ∷ xs) = (k ≤ n x) × NoneBelow n k xs

-- none is below one that stands before it
abbrev pub IsRising : {X : Type 0} → (X → ℕ) → List X → Type 0
IsRising n [] = Unit {0}
IsRising n (x ∷ xs) = NoneBelow n (n x) xs × IsRising n xs

-- each is above all that stand before it
abbrev pub IsStrict : {X : Type 0} → (X → ℕ) → List X → Type 0
IsStrict n [] = Unit {0}
IsStrict n (x ∷ xs) = NoneBelow n (suc (n x)) xs × IsStrict n xs

module _ {X : Type 0} (n : X → ℕ) where
  -- nor below a lesser number
  pub below-less : (j k : ℕ) (xs : List X) → j ≤ k → NoneBelow n k xs → NoneBelow n j xs
  below-less j k [] l h = tt
  below-less j k (x ∷ xs) l h = (omega arith, below-less j k xs l h.1)

  -- nor in another order
  below-taken : (k : ℕ) {x : X} {xs ys : List X} → Takes x xs ys → k ≤ n x → NoneBelow n k ys → NoneBelow n k xs
  below-taken k here l h = (l, h)
  below-taken k (there t) l h = (h.0, below-taken k t l h.1)

  -- so of a reordered list
  below-reordered : (k : ℕ) {xs ys : List X} → Reorders xs ys → NoneBelow n k ys → NoneBelow n k xs
  below-reordered k none h = tt
  below-reordered k (next t r) h = below-taken k t h.0 (below-reordered k r h.1)

  -- what is taken is not below
  taken-above : (k : ℕ) {x : X} {xs ys : List X} → Takes x xs ys → NoneBelow n k xs → k ≤ n x
  taken-above k here h = h.0
  taken-above k (there t) h = taken-above k t h.1

  -- of a list that rises strictly there is one order that does not fall
  pub one_order : (xs ys : List X) → Reorders xs ys → IsStrict n xs → IsRising n ys → xs ≡ ys
  one_order [] [] r s g = refl
  one_order [] (y ∷ ys) (next t r) s g = elim t [ ]
  one_order (x ∷ xs) [] r s g = elim r [ ]
  one_order (x ∷ xs) (_ ∷ ys) (next here r) s g = ap (λ l. x ∷ l) (one_order xs ys r s.1 g.1)
  one_order (x ∷ xs) (y ∷ ys) (next (there t) r) s g =
      let above : suc (n x) ≤ n y = taken-above (suc (n x)) t s.0 in
      let rest = below-reordered (n y) r g.0 in
      absurd (omega (arith, rest.0))

  -- a filter keeps the order
  below-cond : (b : Bool) (k : ℕ) (x : X) (xs : List X) → k ≤ n x → NoneBelow n k xs → NoneBelow n k (cond b (x ∷ xs) xs)
  below-cond true k x xs l h = (l, h)
  below-cond false k x xs l h = h

  -- none that passes is below either
  pub below-filter : (p : X → Bool) (k : ℕ) (xs : List X) → NoneBelow n k xs → NoneBelow n k (filter p xs)
  below-filter p k [] h = tt
  below-filter p k (x ∷ xs) h = below-cond (p x) k x (filter p xs) h.0 (below-filter p k xs h.1)

  -- one element more that passes or not
  rising-cond : (b : Bool) (x : X) (xs : List X) → NoneBelow n (n x) xs → IsRising n xs → IsRising n (cond b (x ∷ xs) xs)
  rising-cond true x xs l h = (l, h)
  rising-cond false x xs l h = h

  -- what passes still rises
  pub rising-filter : (p : X → Bool) (xs : List X) → IsRising n xs → IsRising n (filter p xs)
  rising-filter p [] h = tt
  rising-filter p (x ∷ xs) h = rising-cond (p x) x (filter p xs) (below-filter p (n x) xs h.0) (rising-filter p xs h.1)

  -- a list rises strictly where each is above the one before it
  below-neighbours : (d x : X) (xs : List X) → ((k : ℕ) → suc k < length (x ∷ xs) → n (get_or (x ∷ xs) k d) < n (get_or (x ∷ xs) (suc k) d)) → NoneBelow n (suc (n x)) xs
  below-neighbours d x [] h = tt
  below-neighbours d x (y ∷ ys) h =
      let first : n x < n y = h 0 (omega arith) in
      (omega arith, below-less (suc (n x)) (suc (n y)) ys (omega arith) (below-neighbours d y ys (λ k l. h (suc k) (omega arith))))

  -- so along the whole list
  pub strict-neighbours : (d : X) (xs : List X) → ((k : ℕ) → suc k < length xs → n (get_or xs k d) < n (get_or xs (suc k) d)) → IsStrict n xs
  strict-neighbours d [] h = tt
  strict-neighbours d (x ∷ xs) h = (below-neighbours d x xs h, strict-neighbours d xs (λ k l. h (suc k) (omega arith)))

-- the same at what a map gives
below-map : {X Y : Type 0} (f : X → Y) (m : X → ℕ) (n : Y → ℕ) → ((x : X) → n (f x) ≡ m x) → (k : ℕ) (xs : List X) → NoneBelow m k xs → NoneBelow n k (map f xs)
below-map f m n e k [] h = tt
below-map f m n e k (x ∷ xs) h = (rw e h.0, below-map f m n e k xs h.1)

-- a strict order too
pub strict-map : {X Y : Type 0} (f : X → Y) (m : X → ℕ) (n : Y → ℕ) → ((x : X) → n (f x) ≡ m x) → (xs : List X) → IsStrict m xs → IsStrict n (map f xs)
strict-map f m n e [] h = tt
strict-map f m n e (x ∷ xs) h = (rw e (below-map f m n e (suc (m x)) xs h.0), strict-map f m n e xs h.1)
