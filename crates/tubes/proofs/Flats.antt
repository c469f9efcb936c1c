-- Loops over bands tick by tick: what is left of them, or what was done.
use Rattle.std.proofs.Common.{◌≡◌, ℕ, zero, suc, ◌+◌, ◌-◌, ◌<◌, ◌≤◌, List, [], ◌∷◌, ◌++◌, length, take, drop, refl, sym, ap, ◌∙◌, subst, slice_index_or, arith, true, false, inl, inr}
use Rattle.std.proofs.lemmas.Bool.{cases_lt}
use Rattle.std.proofs.lemmas.Int.{ints}
use Rattle.std.proofs.lemmas.List.{get_or_default, length-append, length-drop}
use Rattle.std.proofs.Math.Seq.{take-append_seam}
use Rattle.std.specs.Prelude.{slice_set}
use Rattle.quant.proofs.Calls.{same_cons}
use Rattle.quant.specs.Interval.{Interval, IsBand, AllBands}
use Rattle.relaxation.specs.Tube.{meet_bands}
use Rattle.tubes.specs.Flat.{common, has_number, nth, written}

-- the meet at each place is the meet of the bands there
pub meet_at : (As Bs : List Interval) (i : ℕ) → i < length As → length As ≡ length Bs →
    nth (meet_bands As Bs) i ≡ common (nth As i) (nth Bs i)
meet_at [] Bs i h e = absurd (omega arith)
meet_at (A ∷ As) [] i h e = cc
meet_at (A ∷ As) (B ∷ Bs) zero h e = refl
meet_at (A ∷ As) (B ∷ Bs) (suc i) h e = meet_at As Bs i (omega arith) (omega arith)

-- there are as many
pub meet_counted : (As Bs : List Interval) → length As ≡ length Bs → length (meet_bands As Bs) ≡ length As
meet_counted [] Bs e = refl
meet_counted (A ∷ As) [] e = cc
meet_counted (A ∷ As) (B ∷ Bs) e = ap suc (meet_counted As Bs (omega arith))

-- bands at every place are all bands
pub each_band : (Cs : List Interval) → ((j : ℕ) → j < length Cs → IsBand (nth Cs j)) → AllBands Cs
each_band [] h = tt
each_band (C ∷ Cs) h = (h 0 (omega arith), each_band Cs (λ j k. h (suc j) (omega arith)))

-- and the other way round
pub band_each : (Cs : List Interval) (j : ℕ) → AllBands Cs → j < length Cs → IsBand (nth Cs j)
band_each [] j h k = omega arith
band_each (C ∷ Cs) zero h k = h.0
band_each (C ∷ Cs) (suc j) h k = band_each Cs j h.1 (omega arith)

-- and lists of one length with the same bands at every place are one list
pub each_same : (As Bs : List Interval) → length As ≡ length Bs → ((j : ℕ) → j < length As → nth As j ≡ nth Bs
    j) → As ≡ Bs
each_same [] [] e h = refl
each_same [] (B ∷ Bs) e h = cc
each_same (A ∷ As) [] e h = cc
each_same (A ∷ As) (B ∷ Bs) e h = same_cons _ _ _ _ (h 0 (omega arith)) (each_same As Bs (omega arith) (λ j
    k. h (suc j) (omega arith)))

-- a band that has a number, and one that has none
pub has_yes : (A : Interval) → has_number A ≡ true → IsBand A
has_yes A e = record { ordered = grind (arith, ints) }

pub has_no : (A : Interval) → has_number A ≡ false → IsBand A → ⊥
has_no A e b = grind (arith, ints)

pub band_has : (A : Interval) → IsBand A → has_number A ≡ true
band_has A b = grind (arith, ints)

-- one more place that has a number
pub one_more : (P : ℕ → Type 0) (i : ℕ) → ((j : ℕ) → j < i → P j) → P i → (j : ℕ) → j < i + 1 → P j
one_more P i h p j k = elim (cases_lt j i) [
  | inl lt ↦ h j lt
  | inr ge ↦ (let e : i ≡ j = omega arith in subst P e p)
]

-- the lists of bands of which the first are met already
abbrev pub partly : ℕ → List Interval → List Interval → List Interval
partly i As Bs = take i (meet_bands As Bs) ++ drop i As

partly-at : (i : ℕ) (As Bs : List Interval) → i < length As → length As ≡ length Bs → nth (partly i As Bs) i ≡ nth As i
partly-at i [] Bs h e = absurd (omega arith)
partly-at i (A ∷ As) [] h e = cc
partly-at zero (A ∷ As) (B ∷ Bs) h e = refl
partly-at (suc i) (A ∷ As) (B ∷ Bs) h e = partly-at i As Bs (omega arith) (omega arith)

partly-more : (i : ℕ) (As Bs : List Interval) → i < length As → length As ≡ length Bs →
    slice_set (partly i As Bs) i (common (nth As i) (nth Bs i)) ≡ partly (suc i) As Bs
partly-more i [] Bs h e = absurd (omega arith)
partly-more i (A ∷ As) [] h e = cc
partly-more zero (A ∷ As) (B ∷ Bs) h e = refl
partly-more (suc i) (A ∷ As) (B ∷ Bs) h e =
    ap (λ Cs. common A B ∷ Cs) (partly-more i As Bs (omega arith) (omega arith))

partly-done : (As Bs : List Interval) → length As ≡ length Bs → partly (length Bs) As Bs ≡ meet_bands As Bs
partly-done [] [] e = refl
partly-done [] (B ∷ Bs) e = cc
partly-done (A ∷ As) [] e = cc
partly-done (A ∷ As) (B ∷ Bs) e = ap (λ Cs. common A B ∷ Cs) (partly-done As Bs (omega arith))

-- the meet at a place, from the bands that stand there
pub common_at : (As Bs : List Interval) (i : ℕ) (A B : Interval) → i < length As → length As ≡ length Bs →
    A ≡ slice_index_or As i A → B ≡ slice_index_or Bs i B → nth (meet_bands As Bs) i ≡ common A B
common_at As Bs i A B h e a b =
    meet_at As Bs i h e
    ∙ (ap (λ C. common C (nth Bs i)) (get_or_default As i _ _ h ∙ sym a)
    ∙ ap (common A) (get_or_default Bs i _ _ (omega arith) ∙ sym b))

-- as many bands as there are
partly-counted : (i : ℕ) (As Bs : List Interval) → i ≤ length As → length As ≡ length Bs → length (partly i As Bs) ≡ length As
partly-counted zero As Bs h e = refl
partly-counted (suc i) [] Bs h e = absurd (omega arith)
partly-counted (suc i) (A ∷ As) [] h e = cc
partly-counted (suc i) (A ∷ As) (B ∷ Bs) h e = ap suc (partly-counted i As Bs (omega arith) (omega arith))

-- the next place of the list, from the bands that stand there
next-common : (As Bs Cs : List Interval) (i : ℕ) (A B : Interval) → i < length Bs → length As ≡ length Bs → Cs ≡ partly i As Bs →
    A ≡ slice_index_or Cs i A → B ≡ slice_index_or Bs i B → common A B ≡ common (nth As i) (nth Bs i)
next-common As Bs Cs i A B h e p a b =
    let inside : i < length Cs = rw (ap length p ∙ partly-counted i As Bs (omega arith) e) (omega arith) in
    ap (λ C. common C B) (a ∙ (get_or_default Cs i _ _ inside ∙ (ap (λ Ds. nth Ds i) p ∙ partly-at i As Bs (omega arith) e)))
    ∙ ap (common (nth As i)) (b ∙ get_or_default Bs i _ _ h)

pub partly_common : (As Bs Cs : List Interval) (i : ℕ) (A B : Interval) → i < length Bs → length As ≡ length Bs →
    AllBands (meet_bands As Bs) → Cs ≡ partly i As Bs → A ≡ slice_index_or Cs i A → B ≡ slice_index_or Bs i B → IsBand (common A B)
partly_common As Bs Cs i A B h e all p a b =
    subst IsBand (meet_at As Bs i (omega arith) e ∙ sym (next-common As Bs Cs i A B h e p a b))
    (band_each (meet_bands As Bs) i all (rw (meet_counted As Bs e) (omega arith)))

pub partly_next : (As Bs Cs : List Interval) (i : ℕ) (A B C : Interval) → i < length Bs → length As ≡ length Bs →
    Cs ≡ partly i As Bs → A ≡ slice_index_or Cs i A → B ≡ slice_index_or Bs i B → C ≡ common A B →
    slice_set Cs i C ≡ partly (i + 1) As Bs
partly_next As Bs Cs i A B C h e p a b c =
    let after : suc i ≡ i + 1 = omega arith in
    ap (λ Ds. slice_set Ds i C) p
    ∙ (ap (slice_set (partly i As Bs) i) (c ∙ next-common As Bs Cs i A B h e p a b)
    ∙ (partly-more i As Bs (omega arith) e ∙ ap (λ j. partly j As Bs) after))

pub partly_done : (As Bs Cs : List Interval) (i : ℕ) → length As ≡ length Bs → length Bs ≤ i → i ≤ length Bs →
    Cs ≡ partly i As Bs → Cs ≡ meet_bands As Bs
partly_done As Bs Cs i e h k p =
    let whole : i ≡ length Bs = omega arith in
    p ∙ (ap (λ j. partly j As Bs) whole ∙ partly-done As Bs e)

-- a list of as many bands takes the place of a list
pub refilled : (xs ws : List Interval) (k : ℕ) → k ≡ length xs → length ws ≡ length xs → take k (ws ++ drop (length ws) xs) ≡ ws
refilled xs ws k e l =
    let whole : k ≡ length ws = omega arith in
    ap (λ j. take j (ws ++ drop (length ws) xs)) whole ∙ take-append_seam ws (drop (length ws) xs)

-- and writing leaves as many
pub written_counted : (xs row : List Interval) (k : ℕ) → k + length row ≤ length xs → length (written xs k row) ≡ length xs
written_counted xs row zero h =
    let after : length (drop (length row) xs) ≡ length xs - length row = length-drop (length row) xs in
    let whole : length (row ++ drop (length row) xs) ≡ length row + length (drop (length row) xs) = length-append row (drop (length row) xs) in
    omega arith
written_counted [] row (suc k) h = absurd (omega arith)
written_counted (x ∷ xs) row (suc k) h = ap suc (written_counted xs row k (omega arith))
