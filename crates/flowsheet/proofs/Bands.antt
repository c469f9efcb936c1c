-- Bands that lie in one another, and bands of one number.
use Rattle.std.proofs.Common.{◌≡◌, ℤ, List, [], ◌∷◌, map, refl, ap, ◌∙◌, subst, arith}
use Rattle.std.proofs.lemmas.Int.{ints}
use Rattle.quant.specs.Interval.{Interval, Holds, IsBand, IsInside, AllHold, AllInside, AllBands, point, points}

-- bands lie in themselves
pub inside-itself : (As : List Interval) → AllInside As As
inside-itself [] = tt
inside-itself (A ∷ As) = (record { above = omega (arith, ints); below = omega (arith, ints) }, inside-itself As)

-- what lies in a band that lies in another lies in this
inside-trans : (A B C : Interval) → IsInside A B → IsInside B C → IsInside A C
inside-trans A B C h k = record { above = omega (arith, ints); below = omega (arith, ints) }

-- and in what a wider list of bands lies in
pub inside-wider : (As Bs Cs : List Interval) → AllInside As Bs → AllInside Bs Cs → AllInside As Cs
inside-wider [] [] [] h k = tt
inside-wider [] [] (C ∷ Cs) h k = absurd k
inside-wider [] (B ∷ Bs) Cs h k = absurd h
inside-wider (A ∷ As) [] Cs h k = absurd h
inside-wider (A ∷ As) (B ∷ Bs) [] h k = absurd k
inside-wider (A ∷ As) (B ∷ Bs) (C ∷ Cs) h k = (inside-trans A B C h.0 k.0, inside-wider As Bs Cs h.1 k.1)

-- one number holds itself alone
point-holds : (z x : ℤ) → Holds (point z) x → z ≡ x
point-holds z x h = omega (arith, ints)

-- bands of one number each hold these numbers
pub points-hold : (zs : List ℤ) → AllHold (points zs) zs
points-hold [] = tt
points-hold (z ∷ zs) = (record { above = omega (arith, ints); below = omega (arith, ints) }, points-hold zs)

-- and no others
points-hold_only : (zs xs : List ℤ) → AllHold (points zs) xs → zs ≡ xs
points-hold_only [] [] h = refl
points-hold_only [] (x ∷ xs) h = absurd h
points-hold_only (z ∷ zs) [] h = absurd h
points-hold_only (z ∷ zs) (x ∷ xs) h = ap (λ a. a ∷ zs) (point-holds z x h.0) ∙ ap (λ ys. x ∷ ys) (points-hold_only zs xs h.1)

-- so bands that are points are the numbers that they hold
pub points-hold_alone : (As : List Interval) (zs xs : List ℤ) → As ≡ points zs → AllHold As xs → As ≡ points xs
points-hold_alone As zs xs e h = e ∙ ap points (points-hold_only zs xs (subst (λ Bs. AllHold Bs xs) e h))

-- the low ends of bands
abbrev pub low_ends : List Interval → List ℤ
low_ends As = map (λ (A : Interval). A.lo) As

-- the low end of a band lies in it
low-holds : (A : Interval) → IsBand A → Holds A A.lo
low-holds A h = record { above = omega (arith, ints); below = h.ordered }

-- so do those of a list of bands
pub low_ends-hold : (As : List Interval) → AllBands As → AllHold As (low_ends As)
low_ends-hold [] h = tt
low_ends-hold (A ∷ As) h = (low-holds A h.0, low_ends-hold As h.1)

-- bands of one number each are bands
points-bands : (zs : List ℤ) → AllBands (points zs)
points-bands [] = tt
points-bands (z ∷ zs) = (record { ordered = omega (arith, ints) }, points-bands zs)

-- so bands that are points have numbers in them
pub points-are_bands : (As : List Interval) (zs : List ℤ) → As ≡ points zs → AllBands As
points-are_bands As zs e = rw e (points-bands zs)
