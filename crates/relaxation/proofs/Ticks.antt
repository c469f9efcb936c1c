-- Tubes tick by tick.
use Rattle.std.proofs.Common.{◌≡◌, ℕ, zero, suc, ◌<◌, List, [], ◌∷◌, length, sym, subst, subst₂, arith, refl}
use Rattle.std.proofs.lemmas.List.FromFn.{get_or-map-range_with_len, length-map-range_with_len}
use Rattle.quant.specs.Interval.{Interval, AllBands, AllInside}
use Rattle.relaxation.specs.Tube.{Tube, IsWithin, HasNumbers, at, tube_of}

-- what a tube of bands has at a tick
pub at-tube_of : (f : ℕ → List Interval) (n t : ℕ) → t < n → at (tube_of f n) t ≡ f t
at-tube_of f n t h = get_or-map-range_with_len f 0 n t t [] h (omega arith)

-- and how long it is
pub length-tube_of : (f : ℕ → List Interval) (n : ℕ) → length (tube_of f n) ≡ n
length-tube_of f n = length-map-range_with_len f 0 n

-- tubes in one another are as long
pub within-length : (A B : Tube) → IsWithin A B → length A ≡ length B
within-length [] [] h = refl
within-length [] (B ∷ Bs) h = absurd h
within-length (A ∷ As) [] h = absurd h
within-length (A ∷ As) (B ∷ Bs) h = let e : length As ≡ length Bs = within-length As Bs h.1 in omega arith

-- and lie in one another at each tick
pub within-at : (A B : Tube) (t : ℕ) → IsWithin A B → AllInside (at A t) (at B t)
within-at [] [] t h = tt
within-at [] (B ∷ Bs) t h = absurd h
within-at (A ∷ As) [] t h = absurd h
within-at (A ∷ As) (B ∷ Bs) zero h = h.0
within-at (A ∷ As) (B ∷ Bs) (suc t) h = within-at As Bs t h.1

-- this is all that it takes
pub within-each : (A B : Tube) → length A ≡ length B → ((t : ℕ) → t < length A → AllInside (at A t) (at B t)) → IsWithin A B
within-each [] [] e h = tt
within-each [] (B ∷ Bs) e h = absurd (omega arith)
within-each (A ∷ As) [] e h = absurd (omega arith)
within-each (A ∷ As) (B ∷ Bs) e h = (h zero (omega arith), within-each As Bs (omega arith) (λ t l. h (suc t) (omega arith)))

-- a tube of bands lies in another where they do at each tick
pub tube-within : (f g : ℕ → List Interval) (n : ℕ) → ((t : ℕ) → t < n → AllInside (f t) (g t)) → IsWithin (tube_of f n) (tube_of g n)
tube-within f g n h =
    let p : length (tube_of f n) ≡ n = length-tube_of f n in
    let q : length (tube_of g n) ≡ n = length-tube_of g n in
    within-each (tube_of f n) (tube_of g n) (omega arith) (λ t l.
    let m : t < n = omega arith in subst₂ AllInside (sym (at-tube_of f n t m)) (sym (at-tube_of g n t m)) (h t m))

-- a tube with numbers has them at each tick
pub numbers-at : (A : Tube) (t : ℕ) → HasNumbers A → AllBands (at A t)
numbers-at [] t h = tt
numbers-at (A ∷ As) zero h = h.0
numbers-at (A ∷ As) (suc t) h = numbers-at As t h.1

-- this is all that it takes
numbers-each : (A : Tube) → ((t : ℕ) → t < length A → AllBands (at A t)) → HasNumbers A
numbers-each [] h = tt
numbers-each (A ∷ As) h = (h zero (omega arith), numbers-each As (λ t l. h (suc t) (omega arith)))

-- a tube of bands has numbers where they do
pub tube-numbers : (f : ℕ → List Interval) (n : ℕ) → ((t : ℕ) → t < n → AllBands (f t)) → HasNumbers (tube_of f n)
tube-numbers f n h =
    let p : length (tube_of f n) ≡ n = length-tube_of f n in
    numbers-each (tube_of f n) (λ t l. let m : t < n = omega arith in subst AllBands (sym (at-tube_of f n t m)) (h t m))
