-- The three laws of all terms: inclusion, isotony, points to points.
use Rattle.std.proofs.Common.{◌≡◌, ℕ, zero, suc, ℤ, pos, ◌+ℤ◌, ◌-ℤ◌, List, [], ◌∷◌, refl, ap, ◌∙◌, arith}
use Rattle.std.proofs.Math.ListN.{get_or-map}
use Rattle.std.proofs.lemmas.Int.{ints}
use Rattle.std.specs.Prelude.{slice_index_or}
use Rattle.quant.specs.Interval.{Interval, Holds, IsBand, IsInside, AllHold, AllInside, AllBands, point, points}
use Rattle.quant.specs.Hull.{hull1, hull2, hull4, hull5}
use Rattle.quant.specs.Rounding.{Rounding}
use Rattle.quant.specs.Operation.{share, keep, gain, blend, mix, tray, lookup, clamp}
use Rattle.quant.specs.Term.{Term, state, input, number, sum, difference, share_of, rest_of, blend_of, gain_of, mix_of, tray_of, lookup_of, clamped, value, values, interval, intervals}
use Rattle.quant.proofs.Hulls.{hull1-holds, hull2-holds, hull4-holds, hull5-holds, hull1-band, hull2-band, hull4-band, hull5-band, hull1-inside, hull2-inside, hull4-inside, hull5-inside, hull1-point, hull2-point, hull4-point, hull5-point}
use Rattle.quant.proofs.Operations.{clamp-monotone, sum-monotone, difference-monotone, share-monotone, keep-monotone, gain-monotone, blend-monotone}
use Rattle.quant.proofs.Mixing.{mix-monotone}
use Rattle.quant.proofs.Stages.{tray-monotone}
use Rattle.quant.proofs.Tables.{lookup-monotone}

-- the number at a place lies in the band at this place
pub place-holds : (As : List Interval) (zs : List ℤ) (n : ℕ) → AllHold As zs →
    Holds (slice_index_or As n (point (pos 0))) (slice_index_or zs n (pos 0))
place-holds [] [] n h = record { above = omega (arith, ints); below = omega (arith, ints) }
place-holds [] (z ∷ zs) n h = absurd h
place-holds (A ∷ As) [] n h = absurd h
place-holds (A ∷ As) (z ∷ zs) zero h = h.0
place-holds (A ∷ As) (z ∷ zs) (suc n) h = place-holds As zs n h.1

-- the band at a place has a number in it
pub place-band : (As : List Interval) (n : ℕ) → AllBands As → IsBand (slice_index_or As n (point (pos 0)))
place-band [] n h = record { ordered = omega (arith, ints) }
place-band (A ∷ As) zero h = h.0
place-band (A ∷ As) (suc n) h = place-band As n h.1

-- the narrower band at a place lies in the wider one there
pub place-inside : (As Bs : List Interval) (n : ℕ) → AllInside As Bs →
    IsInside (slice_index_or As n (point (pos 0))) (slice_index_or Bs n (point (pos 0)))
place-inside [] [] n h = record { above = omega (arith, ints); below = omega (arith, ints) }
place-inside [] (B ∷ Bs) n h = absurd h
place-inside (A ∷ As) [] n h = absurd h
place-inside (A ∷ As) (B ∷ Bs) zero h = h.0
place-inside (A ∷ As) (B ∷ Bs) (suc n) h = place-inside As Bs n h.1

-- one number alone holds itself, is a band and lies in itself
number-holds : (z : ℤ) → Holds (point z) z
number-holds z = record { above = omega (arith, ints); below = omega (arith, ints) }

number-band : (z : ℤ) → IsBand (point z)
number-band z = record { ordered = omega (arith, ints) }

number-inside : (z : ℤ) → IsInside (point z) (point z)
number-inside z = record { above = omega (arith, ints); below = omega (arith, ints) }

-- a term over bands holds the term over any numbers in these
pub interval-holds : (r : Rounding) (states inputs : List Interval) (state ins : List ℤ) → AllHold states state →
    AllHold inputs ins →
    (t : Term) → Holds (interval r states inputs t) (value r state ins t)
interval-holds r states inputs st ins h k (state n) = place-holds states st n h
interval-holds r states inputs st ins h k (input n) = place-holds inputs ins n k
interval-holds r states inputs st ins h k (number z) = number-holds z
interval-holds r states inputs st ins h k (sum t u) =
    hull2-holds ◌+ℤ◌ _ _ _ _ sum-monotone (interval-holds r states inputs st ins h k t)
    (interval-holds r states inputs st ins h k u)
interval-holds r states inputs st ins h k (difference t u) =
    hull2-holds ◌-ℤ◌ _ _ _ _ difference-monotone (interval-holds r states inputs st ins h k t)
    (interval-holds r states inputs st ins h k u)
interval-holds r states inputs st ins h k (share_of t u) =
    hull2-holds (share r) _ _ _ _ (share-monotone r) (interval-holds r states inputs st ins h k t)
    (interval-holds r states inputs st ins h k u)
interval-holds r states inputs st ins h k (rest_of t u) =
    hull2-holds (keep r) _ _ _ _ (keep-monotone r) (interval-holds r states inputs st ins h k t)
    (interval-holds r states inputs st ins h k u)
interval-holds r states inputs st ins h k (blend_of t u v w) =
    hull4-holds (blend r) _ _ _ _ _ _ _ _ (blend-monotone r)
    (interval-holds r states inputs st ins h k t) (interval-holds r states inputs st ins h k u)
    (interval-holds r states inputs st ins h k v) (interval-holds r states inputs st ins h k w)
interval-holds r states inputs st ins h k (gain_of g t) =
    hull1-holds (gain r g) _ _ (gain-monotone r g) (interval-holds r states inputs st ins h k t)
interval-holds r states inputs st ins h k (mix_of t u v w) =
    hull4-holds (mix r) _ _ _ _ _ _ _ _ (mix-monotone r)
    (interval-holds r states inputs st ins h k t) (interval-holds r states inputs st ins h k u)
    (interval-holds r states inputs st ins h k v) (interval-holds r states inputs st ins h k w)
interval-holds r states inputs st ins h k (tray_of holdup slope t u v w z) =
    hull5-holds (tray r holdup slope) _ _ _ _ _ _ _ _ _ _ (tray-monotone r holdup slope)
    (interval-holds r states inputs st ins h k t) (interval-holds r states inputs st ins h k u)
    (interval-holds r states inputs st ins h k v) (interval-holds r states inputs st ins h k w)
    (interval-holds r states inputs st ins h k z)
interval-holds r states inputs st ins h k (lookup_of points t) =
    hull1-holds (lookup r points) _ _ (lookup-monotone r points) (interval-holds r states inputs st ins h k t)
interval-holds r states inputs st ins h k (clamped limits t) =
    hull1-holds (clamp limits) _ _ (clamp-monotone limits) (interval-holds r states inputs st ins h k t)

-- a term over bands has a number in it
pub interval-band : (r : Rounding) (states inputs : List Interval) → AllBands states → AllBands inputs →
    (t : Term) → IsBand (interval r states inputs t)
interval-band r states inputs h k (state n) = place-band states n h
interval-band r states inputs h k (input n) = place-band inputs n k
interval-band r states inputs h k (number z) = number-band z
interval-band r states inputs h k (sum t u) =
    hull2-band ◌+ℤ◌ _ _ sum-monotone (interval-band r states inputs h k t) (interval-band r states inputs h k u)
interval-band r states inputs h k (difference t u) =
    hull2-band ◌-ℤ◌ _ _ difference-monotone (interval-band r states inputs h k t) (interval-band r states inputs h k u)
interval-band r states inputs h k (share_of t u) =
    hull2-band (share r) _ _ (share-monotone r) (interval-band r states inputs h k t)
    (interval-band r states inputs h k u)
interval-band r states inputs h k (rest_of t u) =
    hull2-band (keep r) _ _ (keep-monotone r) (interval-band r states inputs h k t)
    (interval-band r states inputs h k u)
interval-band r states inputs h k (blend_of t u v w) =
    hull4-band (blend r) _ _ _ _ (blend-monotone r) (interval-band r states inputs h k t)
    (interval-band r states inputs h k u)
    (interval-band r states inputs h k v) (interval-band r states inputs h k w)
interval-band r states inputs h k (gain_of g t) =
    hull1-band (gain r g) _ (gain-monotone r g) (interval-band r states inputs h k t)
interval-band r states inputs h k (mix_of t u v w) =
    hull4-band (mix r) _ _ _ _ (mix-monotone r) (interval-band r states inputs h k t)
    (interval-band r states inputs h k u)
    (interval-band r states inputs h k v) (interval-band r states inputs h k w)
interval-band r states inputs h k (tray_of holdup slope t u v w z) =
    hull5-band (tray r holdup slope) _ _ _ _ _ (tray-monotone r holdup slope)
    (interval-band r states inputs h k t) (interval-band r states inputs h k u)
    (interval-band r states inputs h k v) (interval-band r states inputs h k w) (interval-band r states inputs h k z)
interval-band r states inputs h k (lookup_of points t) =
    hull1-band (lookup r points) _ (lookup-monotone r points) (interval-band r states inputs h k t)
interval-band r states inputs h k (clamped limits t) =
    hull1-band (clamp limits) _ (clamp-monotone limits) (interval-band r states inputs h k t)

-- a term over narrower bands is narrower
pub interval-inside : (r : Rounding) (states inputs wider_states wider_inputs : List Interval) →
    AllBands states → AllBands inputs → AllInside states wider_states → AllInside inputs wider_inputs →
    (t : Term) → IsInside (interval r states inputs t) (interval r wider_states wider_inputs t)
interval-inside r states inputs ws wi s i h k (state n) = place-inside states ws n h
interval-inside r states inputs ws wi s i h k (input n) = place-inside inputs wi n k
interval-inside r states inputs ws wi s i h k (number z) = number-inside z
interval-inside r states inputs ws wi s i h k (sum t u) =
    hull2-inside ◌+ℤ◌ _ _ _ _ sum-monotone (interval-band r states inputs s i t) (interval-band r states inputs s i u)
    (interval-inside r states inputs ws wi s i h k t) (interval-inside r states inputs ws wi s i h k u)
interval-inside r states inputs ws wi s i h k (difference t u) =
    hull2-inside ◌-ℤ◌ _ _ _ _ difference-monotone (interval-band r states inputs s i t)
    (interval-band r states inputs s i u)
    (interval-inside r states inputs ws wi s i h k t) (interval-inside r states inputs ws wi s i h k u)
interval-inside r states inputs ws wi s i h k (share_of t u) =
    hull2-inside (share r) _ _ _ _ (share-monotone r) (interval-band r states inputs s i t)
    (interval-band r states inputs s i u)
    (interval-inside r states inputs ws wi s i h k t) (interval-inside r states inputs ws wi s i h k u)
interval-inside r states inputs ws wi s i h k (rest_of t u) =
    hull2-inside (keep r) _ _ _ _ (keep-monotone r) (interval-band r states inputs s i t)
    (interval-band r states inputs s i u)
    (interval-inside r states inputs ws wi s i h k t) (interval-inside r states inputs ws wi s i h k u)
interval-inside r states inputs ws wi s i h k (blend_of t u v w) =
    let band = interval-band r states inputs s i in
    hull4-inside (blend r) _ _ _ _ _ _ _ _ (blend-monotone r) (band t) (band u) (band v) (band w)
    (interval-inside r states inputs ws wi s i h k t) (interval-inside r states inputs ws wi s i h k u)
    (interval-inside r states inputs ws wi s i h k v) (interval-inside r states inputs ws wi s i h k w)
interval-inside r states inputs ws wi s i h k (gain_of g t) =
    hull1-inside (gain r g) _ _ (gain-monotone r g) (interval-band r states inputs s i t)
    (interval-inside r states inputs ws wi s i h k t)
interval-inside r states inputs ws wi s i h k (mix_of t u v w) =
    let band = interval-band r states inputs s i in
    hull4-inside (mix r) _ _ _ _ _ _ _ _ (mix-monotone r) (band t) (band u) (band v) (band w)
    (interval-inside r states inputs ws wi s i h k t) (interval-inside r states inputs ws wi s i h k u)
    (interval-inside r states inputs ws wi s i h k v) (interval-inside r states inputs ws wi s i h k w)
interval-inside r states inputs ws wi s i h k (tray_of holdup slope t u v w z) =
    let band = interval-band r states inputs s i in
    hull5-inside (tray r holdup slope) _ _ _ _ _ _ _ _ _ _ (tray-monotone r holdup slope) (band t) (band u) (band v)
    (band w) (band z)
    (interval-inside r states inputs ws wi s i h k t) (interval-inside r states inputs ws wi s i h k u)
    (interval-inside r states inputs ws wi s i h k v) (interval-inside r states inputs ws wi s i h k w)
    (interval-inside r states inputs ws wi s i h k z)
interval-inside r states inputs ws wi s i h k (lookup_of points t) =
    hull1-inside (lookup r points) _ _ (lookup-monotone r points) (interval-band r states inputs s i t)
    (interval-inside r states inputs ws wi s i h k t)
interval-inside r states inputs ws wi s i h k (clamped limits t) =
    hull1-inside (clamp limits) _ _ (clamp-monotone limits) (interval-band r states inputs s i t)
    (interval-inside r states inputs ws wi s i h k t)

-- operations over bands that are one number each
at_points1 : (f : ℤ → ℤ) (A : Interval) (x : ℤ) → A ≡ point x → hull1 f A ≡ point (f x)
at_points1 f A x e = ap (hull1 f) e ∙ hull1-point f x

at_points2 : (f : ℤ → ℤ → ℤ) (A B : Interval) (x y : ℤ) → A ≡ point x → B ≡ point y → hull2 f A B ≡ point (f x y)
at_points2 f A B x y e g = ap (λ X. hull2 f X B) e ∙ (ap (hull2 f (point x)) g ∙ hull2-point f x y)

at_points4 : (f : ℤ → ℤ → ℤ → ℤ → ℤ) (A B C D : Interval) (x y z w : ℤ) → A ≡ point x → B ≡ point y → C ≡ point z →
    D ≡ point w →
    hull4 f A B C D ≡ point (f x y z w)
at_points4 f A B C D x y z w e g h k =
    ap (λ X. hull4 f X B C D) e ∙ (ap (λ Y. hull4 f (point x) Y C D) g ∙
    (ap (λ Z. hull4 f (point x) (point y) Z D) h ∙
    (ap (hull4 f (point x) (point y) (point z)) k ∙ hull4-point f x y z w)))

at_points5 : (f : ℤ → ℤ → ℤ → ℤ → ℤ → ℤ) (A B C D E : Interval) (x y z w u : ℤ) → A ≡ point x → B ≡ point y →
    C ≡ point z → D ≡ point w → E ≡ point u →
    hull5 f A B C D E ≡ point (f x y z w u)
at_points5 f A B C D E x y z w u e g h k l =
    ap (λ X. hull5 f X B C D E) e ∙ (ap (λ Y. hull5 f (point x) Y C D E) g ∙
    (ap (λ Z. hull5 f (point x) (point y) Z D E) h ∙ (ap (λ W. hull5 f (point x) (point y) (point z) W E) k ∙
    (ap (hull5 f (point x) (point y) (point z) (point w)) l ∙ hull5-point f x y z w u))))

-- a term over bands of one number each is that of the numbers
pub interval-point : (r : Rounding) (state ins : List ℤ) (t : Term) →
    interval r (points state) (points ins) t ≡ point (value r state ins t)
interval-point r st ins (state n) = get_or-map point st n (pos 0)
interval-point r st ins (input n) = get_or-map point ins n (pos 0)
interval-point r st ins (number z) = refl
interval-point r st ins (sum t u) =
    at_points2 ◌+ℤ◌ _ _ _ _ (interval-point r st ins t) (interval-point r st ins u)
interval-point r st ins (difference t u) =
    at_points2 ◌-ℤ◌ _ _ _ _ (interval-point r st ins t) (interval-point r st ins u)
interval-point r st ins (share_of t u) =
    at_points2 (share r) _ _ _ _ (interval-point r st ins t) (interval-point r st ins u)
interval-point r st ins (rest_of t u) =
    at_points2 (keep r) _ _ _ _ (interval-point r st ins t) (interval-point r st ins u)
interval-point r st ins (blend_of t u v w) =
    at_points4 (blend r) _ _ _ _ _ _ _ _
    (interval-point r st ins t) (interval-point r st ins u) (interval-point r st ins v) (interval-point r st ins w)
interval-point r st ins (gain_of g t) =
    at_points1 (gain r g) _ _ (interval-point r st ins t)
interval-point r st ins (mix_of t u v w) =
    at_points4 (mix r) _ _ _ _ _ _ _ _
    (interval-point r st ins t) (interval-point r st ins u) (interval-point r st ins v) (interval-point r st ins w)
interval-point r st ins (tray_of holdup slope t u v w z) =
    at_points5 (tray r holdup slope) _ _ _ _ _ _ _ _ _ _
    (interval-point r st ins t) (interval-point r st ins u) (interval-point r st ins v) (interval-point r st ins w)
    (interval-point r st ins z)
interval-point r st ins (lookup_of points t) =
    at_points1 (lookup r points) _ _ (interval-point r st ins t)
interval-point r st ins (clamped limits t) =
    at_points1 (clamp limits) _ _ (interval-point r st ins t)

-- each of many terms over bands holds the term over any numbers in these
pub intervals-hold : (r : Rounding) (terms : List Term) (states inputs : List Interval) (state ins : List ℤ) →
    AllHold states state → AllHold inputs ins →
    AllHold (intervals r terms states inputs) (values r terms state ins)
intervals-hold r [] states inputs st ins h k = tt
intervals-hold r (t ∷ terms) states inputs st ins h k =
    (interval-holds r states inputs st ins h k t, intervals-hold r terms states inputs st ins h k)

-- each of many terms over bands has a number in it
pub intervals-bands : (r : Rounding) (terms : List Term) (states inputs : List Interval) → AllBands states →
    AllBands inputs →
    AllBands (intervals r terms states inputs)
intervals-bands r [] states inputs h k = tt
intervals-bands r (t ∷ terms) states inputs h k =
    (interval-band r states inputs h k t, intervals-bands r terms states inputs h k)

-- each of many terms over narrower bands is narrower
pub intervals-inside : (r : Rounding) (terms : List Term) (states inputs wider_states wider_inputs : List Interval) →
    AllBands states → AllBands inputs → AllInside states wider_states → AllInside inputs wider_inputs →
    AllInside (intervals r terms states inputs) (intervals r terms wider_states wider_inputs)
intervals-inside r [] states inputs wider_states wider_inputs s i h k = tt
intervals-inside r (t ∷ terms) states inputs wider_states wider_inputs s i h k = (
  interval-inside r states inputs wider_states wider_inputs s i h k t,
  intervals-inside r terms states inputs wider_states wider_inputs s i h k,
)

-- many terms over bands of one number each are those of the numbers
pub intervals-points : (r : Rounding) (terms : List Term) (state ins : List ℤ) →
    intervals r terms (points state) (points ins) ≡ points (values r terms state ins)
intervals-points r [] st ins = refl
intervals-points r (t ∷ terms) st ins =
    ap (λ A. A ∷ intervals r terms (points st) (points ins)) (interval-point r st ins t) ∙
    ap (λ As. point (value r st ins t) ∷ As) (intervals-points r terms st ins)
