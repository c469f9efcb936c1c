-- The greatest of the values over a list.
use Rattle.std.proofs.Common.{◌≡◌, ℕ, zero, suc, ◌<◌, ◌≤◌, ◌⊎◌, max, List, [], ◌∷◌, length, map, fold, slice_index_or}
use Rattle.std.proofs.Common.{Contains, refl, ap, ◌∙◌, inl, inr, subst, arith}
use Rattle.std.proofs.lemmas.Bool.{cases_lt}

-- an element of the rest is one of the whole
pub contains_rest : (x : ℕ) (xs : List ℕ) (v : ℕ) → Contains xs v → Contains (x ∷ xs) v
contains_rest x xs v c = (suc c.0, omega (arith, c.1), c.2)

pub contains_first : (x : ℕ) (xs : List ℕ) → Contains (x ∷ xs) x
contains_first x xs = (0, omega arith, refl)

pub fold_start : (a : ℕ) (xs : List ℕ) → a ≤ fold max a xs
fold_start a [] = omega arith
fold_start a (x ∷ xs) = let h : max a x ≤ fold max (max a x) xs = fold_start (max a x) xs in omega arith

pub value_at : (f : ℕ → ℕ) (a : ℕ) (xs : List ℕ) (k d : ℕ) → k < length xs →
    f (slice_index_or xs k d) ≤ fold max a (map f xs)
value_at f a [] k d h = absurd (omega arith)
value_at f a (x ∷ xs) zero d h = let g : max a (f x) ≤ fold max (max a (f x)) (map f xs) = fold_start (max a (f x))
    (map f xs) in omega arith
value_at f a (x ∷ xs) (suc k) d h = value_at f (max a (f x)) xs k d (omega arith)

-- each value is at most the greatest
pub value_below : (f : ℕ → ℕ) (a : ℕ) (xs : List ℕ) (v : ℕ) → Contains xs v → f v ≤ fold max a (map f xs)
value_below f a xs v c =
    let h : f (slice_index_or xs c.0 v) ≤ fold max a (map f xs) = value_at f a xs c.0 v c.1 in
    subst (λ w. f w ≤ fold max a (map f xs)) c.2 h

-- greater values have a greater greatest
pub greatest_rises : (f g : ℕ → ℕ) (a b : ℕ) (xs : List ℕ) → a ≤ b → ((v : ℕ) → f v ≤ g v) → fold max a
    (map f xs) ≤ fold max b (map g xs)
greatest_rises f g a b [] h r = h
greatest_rises f g a b (x ∷ xs) h r =
    greatest_rises f g (max a (f x)) (max b (g x)) xs (let q : f x ≤ g x = r x in omega arith) r

-- values at most m have a greatest at most m
pub greatest_within : (f : ℕ → ℕ) (a m : ℕ) (xs : List ℕ) → a ≤ m → ((v : ℕ) → f v ≤ m) → fold max a (map f xs) ≤ m
greatest_within f a m [] h r = h
greatest_within f a m (x ∷ xs) h r = greatest_within f (max a (f x)) m xs (let q : f x ≤ m = r x in omega arith) r

-- equal values have one greatest
pub greatest_alike : (f g : ℕ → ℕ) (a : ℕ) (xs : List ℕ) → ((v : ℕ) → Contains xs v → f v ≡ g v) → fold max a
    (map f xs) ≡ fold max a (map g xs)
greatest_alike f g a [] h = refl
greatest_alike f g a (x ∷ xs) h =
    ap (λ b. fold max (max a b) (map f xs)) (h x (contains_first x xs))
    ∙ greatest_alike f g (max a (g x)) xs (λ v c. h v (contains_rest x xs v c))

-- max is one of the two
max_is : (a b : ℕ) → (max a b ≡ a) ⊎ (max a b ≡ b)
max_is a b = elim (cases_lt a b) [ inl h ↦ inr (omega arith) | inr h ↦ inl (omega arith) ]

-- the greatest is what it starts from or one of the values
pub greatest_is : (f : ℕ → ℕ) (a : ℕ) (xs : List ℕ) → (fold max a (map f xs) ≡ a) ⊎
    ((v : ℕ) × Contains xs v × (fold max a (map f xs) ≡ f v))
greatest_is f a [] = inl refl
greatest_is f a (x ∷ xs) = elim (greatest_is f (max a (f x)) xs) [
  | inl e ↦ elim (max_is a (f x)) [
    | inl m ↦ inl (e ∙ m)
    | inr m ↦ inr (x, contains_first x xs, e ∙ m)
  ]
  | inr p ↦ inr (p.0, contains_rest x xs p.0 p.1, p.2)
]
