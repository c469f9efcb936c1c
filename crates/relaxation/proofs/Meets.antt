-- Tubes that lie in one another, and their meets.
use Rattle.std.proofs.Common.{◌≡◌, ℕ, ◌+◌, ◌<◌, ◌≤◌, List, [], ◌∷◌, arith, inl, inr, refl, true}
use Rattle.std.specs.List.{sum_by}
use Rattle.std.specs.Prelude.{◌&&◌, nat_abs, int_le, ◌-ℤ◌}
use Rattle.std.specs.Int.{int_min, int_max}
use Rattle.std.proofs.lemmas.Bool.{cases_lt, and_parts}
use Rattle.std.proofs.lemmas.List.Sums.{sum_by-cons}
use Rattle.std.proofs.lemmas.Int.{ints, clamps}
use Rattle.quant.proofs.Calls.{same_cons}
use Rattle.quant.specs.Interval.{Interval, AllBands, AllInside, IsBand, IsInside}
use Rattle.quant.proofs.Hulls.{inside-same}
use Rattle.flowsheet.proofs.Bands.{inside-itself, inside-wider}
use Rattle.relaxation.specs.Tube.{Tube, IsWithin, IsNarrower, HasNumbers, width, is_within, meet, all_inside, meet_bands}

-- the test of two bands says that one lies in the other
inside-yes : (A B : Interval) → (int_le B.lo A.lo && int_le A.hi B.hi) ≡ true → IsInside A B
inside-yes A B e = record { above = grind (arith, ints); below = grind (arith, ints) }

-- and one that lies in another passes it
inside-test : (A B : Interval) → IsInside A B → (int_le B.lo A.lo && int_le A.hi B.hi) ≡ true
inside-test A B h = grind (arith, ints)

-- the test of two lists of bands says the same
pub all_inside-yes : (As Bs : List Interval) → all_inside As Bs ≡ true → AllInside As Bs
all_inside-yes [] [] e = tt
all_inside-yes [] (B ∷ Bs) e = cc
all_inside-yes (A ∷ As) [] e = cc
all_inside-yes (A ∷ As) (B ∷ Bs) e = (inside-yes A B (and_parts _ _ e).0, all_inside-yes As Bs (and_parts _ _ e).1)

-- and is passed
pub all_inside-test : (As Bs : List Interval) → AllInside As Bs → all_inside As Bs ≡ true
all_inside-test [] [] h = refl
all_inside-test [] (B ∷ Bs) h = absurd h
all_inside-test (A ∷ As) [] h = absurd h
all_inside-test (A ∷ As) (B ∷ Bs) h = rw (inside-test A B h.0) (all_inside-test As Bs h.1)

-- the test says what it means
pub within-yes : (A B : Tube) → is_within A B ≡ true → IsWithin A B
within-yes [] [] e = tt
within-yes [] (B ∷ Bs) e = cc
within-yes (A ∷ As) [] e = cc
within-yes (A ∷ As) (B ∷ Bs) e = (all_inside-yes A B (and_parts _ _ e).0, within-yes As Bs (and_parts _ _ e).1)

-- and is passed
pub within-test : (A B : Tube) → IsWithin A B → is_within A B ≡ true
within-test [] [] h = refl
within-test [] (B ∷ Bs) h = absurd h
within-test (A ∷ As) [] h = absurd h
within-test (A ∷ As) (B ∷ Bs) h = rw (all_inside-test A B h.0) (within-test As Bs h.1)

-- a tube lies in itself
pub within-itself : (A : Tube) → IsWithin A A
within-itself [] = tt
within-itself (A ∷ As) = (inside-itself A, within-itself As)

-- and in what a wider tube lies in
pub within-through : (A B C : Tube) → IsWithin A B → IsWithin B C → IsWithin A C
within-through [] [] C h k = k
within-through [] (B ∷ Bs) Cs h k = absurd h
within-through (A ∷ As) [] Cs h k = absurd h
within-through (A ∷ As) (B ∷ Bs) [] h k = absurd k
within-through (A ∷ As) (B ∷ Bs) (C ∷ Cs) h k = (inside-wider A B C h.0 k.0, within-through As Bs Cs h.1 k.1)

-- lists of bands that lie in each other are one
pub inside-both : (As Bs : List Interval) → AllInside As Bs → AllInside Bs As → As ≡ Bs
inside-both [] [] h k = refl
inside-both [] (B ∷ Bs) h k = absurd h
inside-both (A ∷ As) [] h k = absurd h
inside-both (A ∷ As) (B ∷ Bs) h k = same_cons A B As Bs (inside-same A B h.0 k.0) (inside-both As Bs h.1 k.1)

-- and so are tubes
pub within-both : (A B : Tube) → IsWithin A B → IsWithin B A → A ≡ B
within-both [] [] h k = refl
within-both [] (B ∷ Bs) h k = absurd h
within-both (A ∷ As) [] h k = absurd h
within-both (A ∷ As) (B ∷ Bs) h k = same_cons A B As Bs (inside-both A B h.0 k.0) (within-both As Bs h.1 k.1)

-- the numbers that both bands have
meet-band : Interval → Interval → Interval
meet-band A B = record { lo = int_max A.lo B.lo; hi = int_min A.hi B.hi }

-- the meet of two bands lies in the first
band-left : (A B : Interval) → IsInside (meet-band A B) A
unfolding meet-band
band-left A B = record { above = omega (arith, ints, clamps); below = omega (arith, ints, clamps) }

-- and in the second
band-right : (A B : Interval) → IsInside (meet-band A B) B
unfolding meet-band
band-right A B = record { above = omega (arith, ints, clamps); below = omega (arith, ints, clamps) }

-- and holds what both hold
band-holds : (R A B : Interval) → IsInside R A → IsInside R B → IsInside R (meet-band A B)
unfolding meet-band
band-holds R A B h k = record { above = omega (arith, ints, clamps); below = omega (arith, ints, clamps) }

-- a band lies in itself
band-itself : (A : Interval) → IsInside A A
band-itself A = record { above = omega (arith, ints); below = omega (arith, ints) }

-- the meet with a wider band is the band itself
band-wider : (A B : Interval) → IsInside A B → meet-band A B ≡ A
band-wider A B h = inside-same (meet-band A B) A (band-left A B) (band-holds A A B (band-itself A) h)

-- the same of lists of bands
bands-wider : (As Bs : List Interval) → AllInside As Bs → meet_bands As Bs ≡ As
unfolding meet-band
bands-wider [] Bs h = refl
bands-wider (A ∷ As) [] h = absurd h
bands-wider (A ∷ As) (B ∷ Bs) h = same_cons (meet-band A B) A (meet_bands As Bs) As (band-wider A B h.0) (bands-wider As Bs h.1)

-- and of tubes
pub meet-wider : (A B : Tube) → IsWithin A B → meet A B ≡ A
meet-wider [] B h = refl
meet-wider (A ∷ As) [] h = absurd h
meet-wider (A ∷ As) (B ∷ Bs) h = same_cons (meet_bands A B) A (meet As Bs) As (bands-wider A B h.0) (meet-wider As Bs h.1)

-- three facts of the first and of the rest
all-three : {A B C D E F : Type 0} → A × B × C → D × E × F → (A × D) × (B × E) × (C × F)
all-three first rest = ((first.0, rest.0), (first.1, rest.1), (first.2, rest.2))

-- the meet of two lists of bands that hold a third holds it, and lies in both
bands-meet : (Rs As Bs : List Interval) → AllInside Rs As → AllInside Rs Bs →
    AllInside Rs (meet_bands As Bs) × AllInside (meet_bands As Bs) As × AllInside (meet_bands As Bs) Bs
unfolding meet-band
bands-meet [] [] Bs h k = (tt, tt, k)
bands-meet [] (A ∷ As) Bs h k = absurd h
bands-meet (R ∷ Rs) [] Bs h k = absurd h
bands-meet (R ∷ Rs) (A ∷ As) [] h k = absurd k
bands-meet (R ∷ Rs) (A ∷ As) (B ∷ Bs) h k =
    all-three (band-holds R A B h.0 k.0, band-left A B, band-right A B) (bands-meet Rs As Bs h.1 k.1)

-- so does the meet of two tubes
tubes-meet : (R A B : Tube) → IsWithin R A → IsWithin R B →
    IsWithin R (meet A B) × IsWithin (meet A B) A × IsWithin (meet A B) B
tubes-meet [] [] B h k = (tt, tt, k)
tubes-meet [] (A ∷ As) B h k = absurd h
tubes-meet (R ∷ Rs) [] B h k = absurd h
tubes-meet (R ∷ Rs) (A ∷ As) [] h k = absurd k
tubes-meet (R ∷ Rs) (A ∷ As) (B ∷ Bs) h k = all-three (bands-meet R A B h.0 k.0) (tubes-meet Rs As Bs h.1 k.1)

-- it holds the third
pub meet-holds : (R A B : Tube) → IsWithin R A → IsWithin R B → IsWithin R (meet A B)
meet-holds R A B h k = (tubes-meet R A B h k).0

-- and lies in the first
pub meet-left : (R A B : Tube) → IsWithin R A → IsWithin R B → IsWithin (meet A B) A
meet-left R A B h k = (tubes-meet R A B h k).1

-- and in the second
pub meet-right : (R A B : Tube) → IsWithin R A → IsWithin R B → IsWithin (meet A B) B
meet-right R A B h k = (tubes-meet R A B h k).2

-- what holds a band with a number has a number
band-numbers : (A B : Interval) → IsBand A → IsInside A B → IsBand B
band-numbers A B h k = record { ordered = omega (arith, ints) }

-- so has each of a list of bands
pub bands-numbers : (As Bs : List Interval) → AllBands As → AllInside As Bs → AllBands Bs
bands-numbers [] [] h k = tt
bands-numbers [] (B ∷ Bs) h k = absurd k
bands-numbers (A ∷ As) [] h k = absurd k
bands-numbers (A ∷ As) (B ∷ Bs) h k = (band-numbers A B h.0 k.0, bands-numbers As Bs h.1 k.1)

-- and of a tube
pub numbers-wider : (A B : Tube) → HasNumbers A → IsWithin A B → HasNumbers B
numbers-wider [] [] h k = tt
numbers-wider [] (B ∷ Bs) h k = absurd k
numbers-wider (A ∷ As) [] h k = absurd k
numbers-wider (A ∷ As) (B ∷ Bs) h k = (bands-numbers A B h.0 k.0, numbers-wider As Bs h.1 k.1)

-- the width of a band
band_width : Interval → ℕ
band_width B = nat_abs (B.hi -ℤ B.lo)

-- a band in another is no wider, and holds this if it is no narrower
band-narrow : (A B : Interval) → IsBand A → IsInside A B →
    (band_width A ≤ band_width B) × (band_width B ≤ band_width A → IsInside B A)
unfolding band_width
band-narrow A B h k = (omega (arith, ints), λ m. record { above = omega (arith, ints); below = omega (arith, ints) })

-- what is so of the first and of the rest is so of all
all-narrow : {P Q : Type 0} (a b c d m n : ℕ) → m ≡ a + c → n ≡ b + d → (a ≤ b) × (b ≤ a → P) →
    (c ≤ d) × (d ≤ c → Q) → (m ≤ n) × (n ≤ m → P × Q)
all-narrow a b c d m n e f first rest =
    let p : a ≤ b = first.0 in
    let q : c ≤ d = rest.0 in
    (omega arith, λ h. (first.1 (omega arith), rest.1 (omega arith)))

-- the width of a list of bands
bands_width : List Interval → ℕ
bands_width Bs = sum_by (λ (B : Interval). nat_abs (B.hi -ℤ B.lo)) Bs

-- the first band's and the rest's
bands-width_cons : (B : Interval) (Bs : List Interval) → bands_width (B ∷ Bs) ≡ band_width B + bands_width Bs
unfolding band_width bands_width
bands-width_cons B Bs = sum_by-cons (λ (A : Interval). nat_abs (A.hi -ℤ A.lo)) B Bs

-- bands in others are no wider, and hold these if they are no narrower
bands-narrow : (As Bs : List Interval) → AllBands As → AllInside As Bs →
    (bands_width As ≤ bands_width Bs) × (bands_width Bs ≤ bands_width As → AllInside Bs As)
bands-narrow [] [] h k = (omega arith, λ m. tt)
bands-narrow [] (B ∷ Bs) h k = absurd k
bands-narrow (A ∷ As) [] h k = absurd k
bands-narrow (A ∷ As) (B ∷ Bs) h k = all-narrow _ _ _ _ _ _ (bands-width_cons A As) (bands-width_cons B Bs)
    (band-narrow A B h.0 k.0) (bands-narrow As Bs h.1 k.1)

-- the width at the first tick and the rest's
width-cons : (B : List Interval) (Bs : Tube) → width (B ∷ Bs) ≡ bands_width B + width Bs
unfolding bands_width
width-cons B Bs = sum_by-cons (λ bands. sum_by (λ (A : Interval). nat_abs (A.hi -ℤ A.lo)) bands) B Bs

-- so are tubes in others
width-narrow : (A B : Tube) → HasNumbers A → IsWithin A B → (width A ≤ width B) × (width B ≤ width A → IsWithin B A)
width-narrow [] [] h k = (omega arith, λ m. tt)
width-narrow [] (B ∷ Bs) h k = absurd k
width-narrow (A ∷ As) [] h k = absurd k
width-narrow (A ∷ As) (B ∷ Bs) h k = all-narrow _ _ _ _ _ _ (width-cons A As) (width-cons B Bs)
    (bands-narrow A B h.0 k.0) (width-narrow As Bs h.1 k.1)

-- a strictly narrower tube with numbers has a lesser width
pub width-falls : (A B : Tube) → HasNumbers A → IsNarrower A B → width A < width B
width-falls A B h k = elim (cases_lt (width A) (width B)) [
  | inl l ↦ l
  | inr l ↦ absurd (k.other (within-both A B k.within ((width-narrow A B h k.within).1 l)))
]
