-- What is decided by looking: whether a list holds a number, which of a list's numbers has a property, and which
-- number is the first.
use Rattle.std.proofs.Common.{◌≡◌, ◌<◌, ◌⊎◌, ℕ, zero, suc, List, [], ◌∷◌, Contains, sym, subst, inl, inr, arith}
use Rattle.std.proofs.lemmas.Bool.{cases_eq}
use Rattle.topology.proofs.Maxima.{contains_first, contains_rest}

contains_cases : (x : ℕ) (xs : List ℕ) (v : ℕ) → Contains (x ∷ xs) v → (x ≡ v) ⊎ Contains xs v
contains_cases x xs v (zero, h, e) = inl e
contains_cases x xs v (suc k, h, e) = inr (k, omega arith, e)

pub contains_or : (xs : List ℕ) (v : ℕ) → Contains xs v ⊎ (¬ Contains xs v)
contains_or [] v = inr (λ c. absurd (omega (arith, c.1)))
contains_or (x ∷ xs) v = elim (cases_eq x v) [
  | inl e ↦ inl (subst (Contains (x ∷ xs)) e (contains_first x xs))
  | inr ne ↦ elim (contains_or xs v) [
    | inl c ↦ inl (contains_rest x xs v c)
    | inr none ↦ inr (λ c. elim (contains_cases x xs v c) [ inl e ↦ ne e | inr d ↦ none d ])
  ]
]

-- all of a list's numbers have one property, or one of them has another
pub all_or_one : (P Q : ℕ → Type 0) → ((v : ℕ) → P v ⊎ Q v) → (xs : List ℕ) →
    ((v : ℕ) → Contains xs v → P v) ⊎ ((v : ℕ) × Contains xs v × Q v)
all_or_one P Q d [] = inl (λ v c. absurd (omega (arith, c.1)))
all_or_one P Q d (x ∷ xs) = elim (d x) [
  | inl p ↦ elim (all_or_one P Q d xs) [
    | inl all ↦ inl (λ v c. elim (contains_cases x xs v c) [ inl e ↦ subst P e p | inr r ↦ all v r ])
    | inr one ↦ inr (one.0, contains_rest x xs one.0 one.1, one.2)
  ]
  | inr q ↦ inr (x, contains_first x xs, q)
]

-- all numbers below n have one property, or one of them has another
pub below_or_one : (P Q : ℕ → Type 0) → ((v : ℕ) → P v ⊎ Q v) → (n : ℕ) →
    ((v : ℕ) → v < n → P v) ⊎ ((v : ℕ) × (v < n) × Q v)
below_or_one P Q d zero = inl (λ v h. absurd (omega arith))
below_or_one P Q d (suc n) = elim (below_or_one P Q d n) [
  | inl all ↦ elim (d n) [
    | inl p ↦ inl (λ v h. elim (cases_eq v n) [ inl e ↦ subst P (sym e) p | inr ne ↦ all v (omega arith) ])
    | inr q ↦ inr (n, omega arith, q)
  ]
  | inr one ↦ inr (one.0, omega (arith, one.1), one.2)
]

-- the first number with a property
pub record IsFirst (P : ℕ → Type 0) (u : ℕ) : Type 0 where
  pub holds : P u
  pub first : (v : ℕ) → v < u → ¬ P v

-- no number below n has it, or there is a first
pub none_or_first : (P : ℕ → Type 0) → ((v : ℕ) → P v ⊎ (¬ P v)) → (n : ℕ) →
    ((v : ℕ) → v < n → ¬ P v) ⊎ ((u : ℕ) × IsFirst P u)
none_or_first P d zero = inl (λ v h. absurd (omega arith))
none_or_first P d (suc n) = elim (none_or_first P d n) [
  | inl none ↦ elim (d n) [
    | inl p ↦ inr (n, record { holds = p; first = none })
    | inr not ↦ inl (λ v h. elim (cases_eq v n)
        [ inl e ↦ subst (λ w. ¬ P w) (sym e) not | inr ne ↦ none v (omega arith) ])
  ]
  | inr one ↦ inr one
]

-- where some number has it, there is a first
pub first_of_some : (P : ℕ → Type 0) → ((v : ℕ) → P v ⊎ (¬ P v)) → (n : ℕ) → P n → (u : ℕ) × IsFirst P u
first_of_some P d n p = elim (none_or_first P d (suc n)) [
  | inl none ↦ absurd (none n (omega arith) p)
  | inr one ↦ one
]
