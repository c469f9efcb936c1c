-- More places than values: some value stands twice.
use Rattle.std.proofs.Common.{◌≡◌, ◌≢◌, ℕ, zero, suc, ◌<◌, ◌⊎◌, cond, eqb, sym, ap, ◌∙◌, inl, inr, arith}
use Rattle.std.proofs.lemmas.Bool.{cases_eq, eq-eqb, ne_eqb, cond-true, cond-false}

-- two places below n have one value
pub record IsTwice (f : ℕ → ℕ) (n : ℕ) : Type 0 where
  pub first : ℕ
  pub second : ℕ
  pub before : first < second
  pub within : second < n
  pub same : f first ≡ f second

-- some place below n has the value, or none has
hit : (f : ℕ → ℕ) (w n : ℕ) → ((i : ℕ) × (i < n) × (f i ≡ w)) ⊎ ((i : ℕ) → i < n → f i ≢ w)
hit f w zero = inr (λ i h e. absurd (omega arith))
hit f w (suc n) = elim (cases_eq (f n) w) [
  | inl e ↦ inl (n, omega arith, e)
  | inr ne ↦ elim (hit f w n) [
    | inl p ↦ inl (p.0, omega (arith, p.1), p.2)
    | inr none ↦ inr (λ i h e. elim (cases_eq i n) [
      | inl same ↦ ne (ap f (sym same) ∙ e)
      | inr other ↦ none i (omega arith) e
    ])
  ]
]

-- the value n is put in the place of w
moved : ℕ → ℕ → ℕ → ℕ
moved n w x = cond (eqb x n) w x

moved_at : (n w x : ℕ) → x ≡ n → moved n w x ≡ w
unfolding moved
moved_at n w x e = cond-true (eqb x n) w x (eq-eqb x n e)

moved_other : (n w x : ℕ) → (x ≡ n → ⊥) → moved n w x ≡ x
unfolding moved
moved_other n w x ne = cond-false (eqb x n) w x (ne_eqb x n ne)

-- values other than w that are moved to one are one
moved_apart : (n w x y : ℕ) → x ≢ w → y ≢ w → moved n w x ≡ moved n w y → x ≡ y
moved_apart n w x y p q e = elim (cases_eq x n) [
  | inl a ↦ elim (cases_eq y n) [
    | inl b ↦ a ∙ sym b
    | inr b ↦ absurd (q (sym (moved_other n w y b) ∙ sym e ∙ moved_at n w x a))
  ]
  | inr a ↦ elim (cases_eq y n) [
    | inl b ↦ absurd (p (sym (moved_other n w x a) ∙ e ∙ moved_at n w y b))
    | inr b ↦ sym (moved_other n w x a) ∙ e ∙ moved_other n w y b
  ]
]

-- a value other than w, and below n or at it, is moved below n
moved_below : (n w x : ℕ) → w < suc n → x < suc n → x ≢ w → moved n w x < n
moved_below n w x h g ne = elim (cases_eq x n) [
  | inl a ↦ let e : moved n w x ≡ w = moved_at n w x a in
      elim (cases_eq w n) [
        | inl b ↦ absurd (ne (a ∙ sym b))
        | inr b ↦ omega arith
      ]
  | inr a ↦ let e : moved n w x ≡ x = moved_other n w x a in omega arith
]

pub pigeon : (n : ℕ) (f : ℕ → ℕ) → ((i : ℕ) → i < suc n → f i < n) → IsTwice f (suc n)
pigeon zero f h = let g : f 0 < 0 = h 0 (omega arith) in absurd (omega arith)
pigeon (suc n) f h = elim (hit f (f (suc n)) (suc n)) [
  | inl p ↦ record { first = p.0; second = suc n; before = p.1; within = omega arith; same = p.2 }
  | inr none ↦
      let w = f (suc n) in
      let t : IsTwice (λ i. moved n w (f i)) (suc n)
      = pigeon n (λ i. moved n w (f i))
      (λ i l. moved_below n w (f i) (h (suc n) (omega arith)) (h i (omega arith)) (none i l)) in
      let b = t.before in
      let l = t.within in
      record {
        first = t.first;
        second = t.second;
        before = t.before;
        within = omega (arith, t.within);
        same = moved_apart n w (f t.first) (f t.second) (none t.first (omega (arith, t.before, t.within)))
            (none t.second t.within) t.same;
      }
]
