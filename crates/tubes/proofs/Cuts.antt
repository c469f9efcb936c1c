-- Bands tick by tick in one list, and the same cut into ticks.
use Rattle.std.proofs.Common.{◌≡◌, ℕ, zero, suc, ◌+◌, ◌*◌, ◌<◌, ◌≤◌, List, [], ◌∷◌, ◌++◌, length, map, take, drop, replicate, refl, sym, subst, ap, ◌∙◌, arith, true, false}
use Rattle.std.specs.Prelude.{◌&&◌, slice_set, Bool, int_le}
use Rattle.std.specs.List.{sum_by}
use Rattle.std.proofs.lemmas.List.{length-append, take-append-drop, drop_all, drop-drop, length-drop, length-take-le, take-append-le, drop-append-le}
use Rattle.std.proofs.Math.Seq.{take-length, take-append_seam, drop-append_seam}
use Rattle.std.proofs.lemmas.List.Sums.{sum_by-cons, sum_by-take-drop}
use Rattle.quant.proofs.Calls.{same_cons}
use Rattle.quant.specs.Interval.{Interval, AllBands}
use Rattle.relaxation.specs.Tube.{at, all_inside, is_within, meet_bands, meet, HasNumbers, width}
use Rattle.tubes.specs.Cut.{cut, bands_from}
use Rattle.tubes.specs.Flat.{nth, reach, written}

-- what is left after the first of n + 1 ticks, and that tick
dropped : (n c : ℕ) (xs : List Interval) → length xs ≡ suc n * c → length (drop c xs) ≡ n * c
dropped n c xs e = rw (length-drop c xs) (rw e (omega arith))

taken : (n c : ℕ) (xs : List Interval) → length xs ≡ suc n * c → length (take c xs) ≡ c
taken n c xs e = length-take-le c xs (rw e (omega arith))

-- there are n ticks
pub cut_counted : (n c : ℕ) (xs : List Interval) → length (cut n c xs) ≡ n
cut_counted zero c xs = refl
cut_counted (suc n) c xs = ap suc (cut_counted n c (drop c xs))

-- the first c of the meets are the meets of the first c, and so for those after
take-meet : (c : ℕ) (xs ys : List Interval) → take c (meet_bands xs ys) ≡ meet_bands (take c xs) (take c ys)
take-meet zero xs ys = refl
take-meet (suc c) [] ys = refl
take-meet (suc c) (x ∷ xs) [] = refl
take-meet (suc c) (x ∷ xs) (y ∷ ys) = ap (λ (zs : List Interval). nth (meet_bands (x ∷ []) (y ∷ [])) 0 ∷ zs) (take-meet c xs ys)

meet-nothing : (xs : List Interval) → meet_bands xs [] ≡ []
meet-nothing [] = refl
meet-nothing (x ∷ xs) = refl

pub drop_meet : (c : ℕ) (xs ys : List Interval) → drop c (meet_bands xs ys) ≡ meet_bands (drop c xs) (drop c ys)
drop_meet zero xs ys = refl
drop_meet (suc c) [] ys = refl
drop_meet (suc c) (x ∷ xs) [] = sym (meet-nothing (drop c xs))
drop_meet (suc c) (x ∷ xs) (y ∷ ys) = drop_meet c xs ys

pub cut_meet : (n c : ℕ) (xs ys : List Interval) → cut n c (meet_bands xs ys) ≡ meet (cut n c xs) (cut n c ys)
cut_meet zero c xs ys = refl
cut_meet (suc n) c xs ys =
    same_cons _ _ _ _ (take-meet c xs ys) (ap (cut n c) (drop_meet c xs ys) ∙ cut_meet n c (drop c xs) (drop c ys))

and-assoc : (a b c : Bool) → ((a && b) && c) ≡ (a && (b && c))
and-assoc true b c = refl
and-assoc false b c = refl

-- so for the test of lying in one another
inside-parts : (c : ℕ) (xs ys : List Interval) → length xs ≡ length ys →
    all_inside xs ys ≡ (all_inside (take c xs) (take c ys) && all_inside (drop c xs) (drop c ys))
inside-parts zero xs ys e = refl
inside-parts (suc c) [] [] e = refl
inside-parts (suc c) [] (y ∷ ys) e = cc
inside-parts (suc c) (x ∷ xs) [] e = cc
inside-parts (suc c) (x ∷ xs) (y ∷ ys) e =
    ap (λ b. (int_le y.lo x.lo && int_le x.hi y.hi) && b) (inside-parts c xs ys (omega arith))
    ∙ sym (and-assoc (int_le y.lo x.lo && int_le x.hi y.hi) _ _)

pub cut_inside : (n c : ℕ) (xs ys : List Interval) → length xs ≡ n * c → length ys ≡ n * c →
    is_within (cut n c xs) (cut n c ys) ≡ all_inside xs ys
cut_inside zero c [] [] e d = refl
cut_inside zero c [] (y ∷ ys) e d = absurd (omega arith)
cut_inside zero c (x ∷ xs) ys e d = absurd (omega arith)
cut_inside (suc n) c xs ys e d = sym (
    inside-parts c xs ys (e ∙ sym d)
    ∙ ap (λ b. all_inside (take c xs) (take c ys) && b)
    (sym (cut_inside n c (drop c xs) (drop c ys) (dropped n c xs e) (dropped n c ys d))))

-- bands stay bands
take-bands : (c : ℕ) (xs : List Interval) → AllBands xs → AllBands (take c xs)
take-bands zero xs h = tt
take-bands (suc c) [] h = tt
take-bands (suc c) (x ∷ xs) h = (h.0, take-bands c xs h.1)

pub drop_bands : (c : ℕ) (xs : List Interval) → AllBands xs → AllBands (drop c xs)
drop_bands zero xs h = h
drop_bands (suc c) [] h = tt
drop_bands (suc c) (x ∷ xs) h = drop_bands c xs h.1

pub cut_numbers : (n c : ℕ) (xs : List Interval) → AllBands xs → HasNumbers (cut n c xs)
cut_numbers zero c xs h = tt
cut_numbers (suc n) c xs h = (take-bands c xs h, cut_numbers n c (drop c xs) (drop_bands c xs h))

-- the ticks' parts of the list
pub cut_at : (n c t : ℕ) (xs : List Interval) → t < n → at (cut n c xs) t ≡ take c (drop (t * c) xs)
cut_at zero c t xs h = absurd (omega arith)
cut_at (suc n) c zero xs h = let e : 0 ≡ 0 * c = omega arith in ap (λ k. take c (drop k xs)) e
cut_at (suc n) c (suc t) xs h =
    let e : c + t * c ≡ suc t * c = omega arith in
    cut_at n c t (drop c xs) (omega arith) ∙ (ap (take c) (drop-drop (t * c) c xs) ∙ ap (λ k. take c (drop k xs)) e)

-- each tick has c bands
pub cut_shape : (n c : ℕ) (xs : List Interval) → length xs ≡ n * c → map length (cut n c xs) ≡ replicate n c
cut_shape zero c xs e = refl
cut_shape (suc n) c xs e = same_cons _ _ _ _ (taken n c xs e) (cut_shape n c (drop c xs) (dropped n c xs e))

-- the sums over the ticks are the sum over the list
pub cut_width : (n c : ℕ) (xs : List Interval) → length xs ≡ n * c → width (cut n c xs) ≡ sum_by reach xs
cut_width zero c [] e = refl
cut_width zero c (x ∷ xs) e = absurd (omega arith)
cut_width (suc n) c xs e =
    sum_by-cons _ (take c xs) (cut n c (drop c xs))
    ∙ (ap (λ k. sum_by reach (take c xs) + k) (cut_width n c (drop c xs) (dropped n c xs e))
    ∙ sum_by-take-drop reach xs c)

take-whole : (c : ℕ) (ys : List Interval) → length ys ≡ c → take c ys ≡ ys
take-whole c ys d = subst (λ k. take k ys ≡ ys) d (take-length ys)

-- one more tick after n
pub cut_more : (n c : ℕ) (xs ys : List Interval) → length xs ≡ n * c → length ys ≡ c →
    cut (suc n) c (xs ++ ys) ≡ cut n c xs ++ ys ∷ []
cut_more zero c [] ys e d = same_cons _ _ _ _ (take-whole c ys d) refl
cut_more zero c (x ∷ xs) ys e d = absurd (omega arith)
cut_more (suc n) c xs ys e d =
    same_cons _ _ _ _
    (take-append-le c xs ys (rw e (omega arith)))
    (ap (cut (suc n) c) (drop-append-le c xs ys (rw e (omega arith))) ∙ cut_more n c (drop c xs) ys (dropped n c xs e) d)

pub replicate_more : (n : ℕ) (xs : List Interval) → replicate (suc n) xs ≡ replicate n xs ++ xs ∷ []
replicate_more zero xs = refl
replicate_more (suc n) xs = ap (λ rest. xs ∷ rest) (replicate_more n xs)

pub repeated_more : (xs ys zs : List Interval) (n : ℕ) →
    (length ys ≡ n * length xs) × (cut n (length xs) ys ≡ replicate n xs) → zs ≡ ys ++ xs →
    (length zs ≡ (n + 1) * length xs) × (cut (n + 1) (length xs) zs ≡ replicate (n + 1) xs)
repeated_more xs ys zs n h e =
    let after : n + 1 ≡ suc n = omega arith in (
      ap length e ∙ (length-append ys xs ∙ rw h.0 (omega arith)),
      rw after (ap (cut (suc n) (length xs)) e
          ∙ (cut_more n (length xs) ys xs h.0 refl ∙ (ap (λ As. As ++ xs ∷ []) h.1 ∙ sym (replicate_more n xs)))),
    )

same-first : (n c : ℕ) (row rest : List Interval) → length row ≡ c → cut (suc n) c (row ++ rest) ≡ row ∷ cut n c rest
same-first n c row rest e =
    rw (sym e) (same_cons _ _ _ _ (take-append_seam row rest) (ap (cut n (length row)) (drop-append_seam row rest)))

-- what is written later leaves the first tick, and is written as much earlier in the rest
take-first : (c k j : ℕ) (xs row : List Interval) → j ≡ c + k → c ≤ length xs → take c (written xs j row) ≡ take c xs
take-first zero k j xs row e h = refl
take-first (suc c) k zero xs row e h = absurd (omega arith)
take-first (suc c) k (suc j) [] row e h = absurd (omega arith)
take-first (suc c) k (suc j) (x ∷ xs) row e h = ap (λ ys. x ∷ ys) (take-first c k j xs row (omega arith) (omega arith))

drop-first : (c k j : ℕ) (xs row : List Interval) → j ≡ c + k → c ≤ length xs → drop c (written xs j row) ≡ written (drop c xs) k row
drop-first zero k j xs row e h = (let same : j ≡ k = omega arith in ap (λ i. written xs i row) same)
drop-first (suc c) k zero xs row e h = absurd (omega arith)
drop-first (suc c) k (suc j) [] row e h = absurd (omega arith)
drop-first (suc c) k (suc j) (x ∷ xs) row e h = drop-first c k j xs row (omega arith) (omega arith)

-- the list with other bands at a tick is the tube with them
pub cut_written : (n c t : ℕ) (xs row : List Interval) → t < n → length row ≡ c → length xs ≡ n * c →
    cut n c (written xs (t * c) row) ≡ slice_set (cut n c xs) t row
cut_written zero c t xs row h e s = absurd (omega arith)
cut_written (suc n) c zero xs row h e s =
    let start : 0 * c ≡ 0 = omega arith in
    rw start (same-first n c row (drop (length row) xs) e ∙ ap (λ k. row ∷ cut n c (drop k xs)) e)
cut_written (suc n) c (suc t) xs row h e s =
    let start : suc t * c ≡ c + t * c = omega arith in
    let room : c ≤ length xs = rw s (omega arith) in
    same_cons _ _ _ _ (take-first c (t * c) (suc t * c) xs row start room)
    (ap (cut n c) (drop-first c (t * c) (suc t * c) xs row start room)
    ∙ cut_written n c t (drop c xs) row (omega arith) e (dropped n c xs s))

-- the bands from a tick on are the end of the list
pub cut_from : (t n c : ℕ) (xs : List Interval) → length xs ≡ n * c → bands_from t (cut n c xs) ≡ drop (t * c) xs
cut_from t zero c xs e = sym (drop_all (t * c) xs (omega (arith, e)))
cut_from zero (suc n) c xs e =
    let first : 0 * c ≡ 0 = omega arith in
    ap (λ (ys : List Interval). take c xs ++ ys)
    (cut_from zero n c (drop c xs) (dropped n c xs e) ∙ ap (λ k. drop k (drop c xs)) first)
    ∙ take-append-drop c xs ∙ sym (ap (λ k. drop k xs) first)
cut_from (suc t) (suc n) c xs e =
    let next : c + t * c ≡ suc t * c = omega arith in
    cut_from t n c (drop c xs) (dropped n c xs e) ∙ drop-drop (t * c) c xs ∙ ap (λ k. drop k xs) next
