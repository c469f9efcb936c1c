-- The bands of a tube from a tick on, and a tube with other bands there.
use Rattle.std.proofs.Common.{◌≡◌, ◌∙◌, ℕ, zero, suc, ◌+◌, ◌<◌, ◌≤◌, List, [], ◌∷◌, ◌++◌, length, take, drop, refl, sym, ap, arith}
use Rattle.std.specs.Prelude.{slice_set}
use Rattle.std.proofs.lemmas.List.{length-append, length-drop, length-take-le, take-append-le, drop-append-le}
use Rattle.std.proofs.Math.Seq.{take-append_seam, drop-append_seam}
use Rattle.quant.specs.Interval.{Interval}
use Rattle.quant.proofs.Calls.{same_cons}
use Rattle.relaxation.specs.Tube.{Tube, at, meet, meet_bands}
use Rattle.relaxation.proofs.Meets.{meet-wider, within-itself}
use Rattle.tubes.specs.Shape.{HasShapeOf}
use Rattle.relax_core.specs.Rooms.{AreSameTicks}
use Rattle.relax_core.specs.Versions.{bands_from, restored}

-- the first row of two shapes, and the rest
pub shape-first : (A B : List Interval) (As Bs : Tube) → HasShapeOf (A ∷ As) (B ∷ Bs) → length A ≡ length B
shape-first A B As Bs h = cc

pub shape-rest : (A B : List Interval) (As Bs : Tube) → HasShapeOf (A ∷ As) (B ∷ Bs) → HasShapeOf As Bs
shape-rest A B As Bs h = cc

-- the bands from a tick on are those of that tick and those of the ticks after it
pub bands-step : (t : ℕ) (T : Tube) → t < length T → bands_from t T ≡ at T t ++ bands_from (suc t) T
bands-step t [] l = absurd (omega arith)
bands-step zero (row ∷ rows) l = refl
bands-step (suc t) (row ∷ rows) l = bands-step t rows (omega arith)

pub bands-end : (t : ℕ) (T : Tube) → length T ≤ t → bands_from t T ≡ []
bands-end t [] l = refl
bands-end zero (row ∷ rows) l = absurd (omega arith)
bands-end (suc t) (row ∷ rows) l = bands-end t rows (omega arith)

-- those of the ticks after one that is written stay
pub bands-written : (t : ℕ) (T : Tube) (row : List Interval) → bands_from (suc t) (slice_set T t row) ≡ bands_from (suc t) T
bands-written t [] row = refl
bands-written zero (first ∷ rows) row = refl
bands-written (suc t) (first ∷ rows) row = bands-written t rows row

pub bands-next : (t : ℕ) (T : Tube) → t < length T → bands_from t T ≡ at T t ++ bands_from (t + 1) T
bands-next t T l = (let after : t + 1 ≡ suc t = omega arith in rw after (bands-step t T l))

pub bands-over : (t : ℕ) (T : Tube) (row : List Interval) → bands_from (t + 1) (slice_set T t row) ≡ bands_from (t + 1) T
bands-over t T row = (let after : t + 1 ≡ suc t = omega arith in rw after (bands-written t T row))

pub bands-split : (t : ℕ) (T : Tube) → t < length T → length (bands_from t T) ≡ length (at T t) + length (bands_from (t + 1) T)
bands-split t T l = ap length (bands-next t T l) ∙ length-append (at T t) (bands_from (t + 1) T)

-- tubes of one shape have as many
pub bands-counted : (t : ℕ) (A B : Tube) → HasShapeOf A B → length (bands_from t A) ≡ length (bands_from t B)
bands-counted t [] [] h = refl
bands-counted t [] (B ∷ Bs) h = cc
bands-counted t (A ∷ As) [] h = cc
bands-counted zero (A ∷ As) (B ∷ Bs) h =
    length-append A (bands_from 0 As)
    ∙ ap (λ n. n + length (bands_from 0 As)) (shape-first A B As Bs h)
    ∙ ap (λ n. length B + n) (bands-counted 0 As Bs (shape-rest A B As Bs h))
    ∙ sym (length-append B (bands_from 0 Bs))
bands-counted (suc t) (A ∷ As) (B ∷ Bs) h = bands-counted t As Bs (shape-rest A B As Bs h)

-- one tick is restored, and then those after it
pub restored-step : (t : ℕ) (T : Tube) (bands : List Interval) → t < length T →
    restored t T bands ≡ restored (suc t) (slice_set T t (take (length (at T t)) bands)) (drop (length (at T t)) bands)
restored-step t [] bands l = absurd (omega arith)
restored-step zero (row ∷ rows) bands l = refl
restored-step (suc t) (row ∷ rows) bands l = ap (λ (rest : Tube). row ∷ rest) (restored-step t rows bands (omega arith))

pub restored-next : (t : ℕ) (T : Tube) (bands : List Interval) → t < length T →
    restored t T bands ≡ restored (t + 1) (slice_set T t (take (length (at T t)) bands)) (drop (length (at T t)) bands)
restored-next t T bands l = (let after : t + 1 ≡ suc t = omega arith in rw after (restored-step t T bands l))

pub restored-end : (t : ℕ) (T : Tube) (bands : List Interval) → length T ≤ t → restored t T bands ≡ T
restored-end t [] bands l = refl
restored-end zero (row ∷ rows) bands l = absurd (omega arith)
restored-end (suc t) (row ∷ rows) bands l = ap (λ (rest : Tube). row ∷ rest) (restored-end t rows bands (omega arith))

-- where there are enough bands, what is restored has the tube's shape
pub restored-shape : (t : ℕ) (T : Tube) (bands : List Interval) → length (bands_from t T) ≤ length bands →
    HasShapeOf (restored t T bands) T
restored-shape t [] bands l = refl
restored-shape zero (row ∷ rows) bands l =
    let size = length-append row (bands_from 0 rows) in
    same_cons _ _ _ _ (length-take-le (length row) bands (omega (arith, size)))
    (restored-shape 0 rows (drop (length row) bands) (omega (arith, size, length-drop (length row) bands)))
restored-shape (suc t) (row ∷ rows) bands l = ap (λ rest. length row ∷ rest) (restored-shape t rows bands l)

-- and further bands behind them tell nothing
pub restored-more : (t : ℕ) (T : Tube) (bands more : List Interval) → length (bands_from t T) ≤ length bands →
    restored t T (bands ++ more) ≡ restored t T bands
restored-more t [] bands more l = refl
restored-more zero (row ∷ rows) bands more l =
    let size = length-append row (bands_from 0 rows) in
    same_cons _ _ _ _ (take-append-le (length row) bands more (omega (arith, size)))
    (ap (restored 0 rows) (drop-append-le (length row) bands more (omega (arith, size)))
    ∙ restored-more 0 rows (drop (length row) bands) more (omega (arith, size, length-drop (length row) bands)))
restored-more (suc t) (row ∷ rows) bands more l = ap (λ (rest : Tube). row ∷ rest) (restored-more t rows bands more l)

-- a tube with another's bands from a tick on, and the same bands before it, is the other
pub restored-is : (t : ℕ) (T next : Tube) → HasShapeOf next T → AreSameTicks t T next →
    restored t next (bands_from t T) ≡ T
restored-is t [] [] h same = refl
restored-is t [] (row ∷ rows) h same = cc
restored-is t (A ∷ As) [] h same = cc
restored-is zero (A ∷ As) (B ∷ Bs) h same =
    let wide : length B ≡ length A = shape-first B A Bs As h in
    same_cons _ _ _ _
    (ap (λ n. take n (A ++ bands_from 0 As)) wide ∙ take-append_seam A (bands_from 0 As))
    (ap (restored 0 Bs) (ap (λ n. drop n (A ++ bands_from 0 As)) wide ∙ drop-append_seam A (bands_from 0 As))
    ∙ restored-is 0 As Bs (shape-rest B A Bs As h) (λ q l. absurd (omega arith)))
restored-is (suc t) (A ∷ As) (B ∷ Bs) h same =
    same_cons _ _ _ _ (sym (same 0 (omega arith)))
    (restored-is t As Bs (shape-rest B A Bs As h) (λ q l. same (suc q) (omega arith)))

-- a tube and its meet with another have the same bands where the two have
meet-itself : (A : List Interval) → meet_bands A A ≡ A
meet-itself A = ap (λ (T : Tube). at T 0) (meet-wider (A ∷ []) (A ∷ []) (within-itself (A ∷ [])))

meet-there : (t : ℕ) (A B : Tube) → HasShapeOf A B → at A t ≡ at B t → at A t ≡ at (meet A B) t
meet-there t [] B h e = refl
meet-there t (A ∷ As) [] h e = cc
meet-there zero (A ∷ As) (B ∷ Bs) h e = sym (ap (meet_bands A) (sym e) ∙ meet-itself A)
meet-there (suc t) (A ∷ As) (B ∷ Bs) h e = meet-there t As Bs (shape-rest A B As Bs h) e

pub meet-ticks : (t : ℕ) (A B : Tube) → HasShapeOf A B → AreSameTicks t A B → AreSameTicks t A (meet A B)
meet-ticks t A B h same q l = meet-there q A B h (same q l)

-- and one shape
meet-wide : (A B : List Interval) → length A ≡ length B → length (meet_bands A B) ≡ length A
meet-wide [] B e = refl
meet-wide (A ∷ As) [] e = absurd (omega arith)
meet-wide (A ∷ As) (B ∷ Bs) e = ap suc (meet-wide As Bs (omega arith))

pub meet-shape : (A B : Tube) → HasShapeOf A B → HasShapeOf (meet A B) A
meet-shape [] B h = refl
meet-shape (A ∷ As) [] h = cc
meet-shape (A ∷ As) (B ∷ Bs) h =
    same_cons _ _ _ _ (meet-wide A B (shape-first A B As Bs h)) (meet-shape As Bs (shape-rest A B As Bs h))
