-- Rows that are gathered from tubes, and spread over them, one tube after another.
use Rattle.std.proofs.Common.{◌≡◌, ◌∙◌, ℕ, zero, suc, ◌<◌, List, [], ◌∷◌, ◌++◌, length, take, drop, map}
use Rattle.std.proofs.Common.{refl, sym, subst, ap, arith}
use Rattle.std.specs.Prelude.{slice_index_or, slice_set}
use Rattle.std.proofs.lemmas.List.{length-append}
use Rattle.std.proofs.Math.Seq.{take-append_seam, drop-append_seam, map-set_same}
use Rattle.quant.specs.Interval.{Interval}
use Rattle.quant.specs.Ports.{outputs}
use Rattle.relaxation.specs.Tube.{Tube, at}
use Rattle.renewal.specs.Ticks.{spread_at, AreFilled}

-- a row for each tube at this tick, with as many bands
abbrev pub AreFit : ℕ → List (List Interval) → List Tube → Type 0
AreFit t [] [] = Unit {0}
AreFit t [] (tube ∷ tubes) = ⊥
AreFit t (row ∷ rows) [] = ⊥
AreFit t (row ∷ rows) (tube ∷ tubes) = (t < length tube) × (length row ≡ length (at tube t)) × AreFit t rows tubes

pub fit-each : (t : ℕ) (rows : List (List Interval)) (tubes : List Tube) → length rows ≡ length tubes →
    ((p : ℕ) → p < length tubes → t < length (slice_index_or tubes p [])) →
    ((p : ℕ) → p < length tubes → length (slice_index_or rows p []) ≡ length (at (slice_index_or tubes p []) t)) →
    AreFit t rows tubes
fit-each t [] [] e h k = tt
fit-each t [] (tube ∷ tubes) e h k = absurd (omega arith)
fit-each t (row ∷ rows) [] e h k = absurd (omega arith)
fit-each t (row ∷ rows) (tube ∷ tubes) e h k = (
  h 0 (omega arith),
  k 0 (omega arith),
  fit-each t rows tubes (omega arith) (λ p l. h (suc p) (omega arith)) (λ p l. k (suc p) (omega arith)),
)

-- the rows, one after another, fill the tubes
first-taken : (row rest : List Interval) (k : ℕ) → length row ≡ k → take k (row ++ rest) ≡ row
first-taken row rest k e = ap (λ n. take n (row ++ rest)) (sym e) ∙ take-append_seam row rest

first-dropped : (row rest : List Interval) (k : ℕ) → length row ≡ k → drop k (row ++ rest) ≡ rest
first-dropped row rest k e = ap (λ n. drop n (row ++ rest)) (sym e) ∙ drop-append_seam row rest

pub fit-filled : (t : ℕ) (rows : List (List Interval)) (tubes : List Tube) → AreFit t rows tubes →
    AreFilled t (outputs rows) tubes
fit-filled t [] [] f = tt
fit-filled t [] (tube ∷ tubes) f = absurd f
fit-filled t (row ∷ rows) [] f = absurd f
fit-filled t (row ∷ rows) (tube ∷ tubes) f = (
  f.0,
  omega (arith, length-append row (outputs rows), f.1),
  subst (λ (bands : List Interval). AreFilled t bands tubes) (sym (first-dropped row (outputs rows) _ f.1))
      (fit-filled t rows tubes f.2),
)

-- each tube has its row at the tick
pub fit-at : (t : ℕ) (rows : List (List Interval)) (tubes : List Tube) (p : ℕ) → AreFit t rows tubes →
    p < length tubes →
    slice_index_or (spread_at t (outputs rows) tubes) p []
    ≡ slice_set (slice_index_or tubes p []) t (slice_index_or rows p [])
fit-at t [] [] p f l = absurd (omega arith)
fit-at t [] (tube ∷ tubes) p f l = absurd f
fit-at t (row ∷ rows) [] p f l = absurd f
fit-at t (row ∷ rows) (tube ∷ tubes) zero f l = ap (slice_set tube t) (first-taken row (outputs rows) _ f.1)
fit-at t (row ∷ rows) (tube ∷ tubes) (suc p) f l =
    ap (λ bands. slice_index_or (spread_at t bands tubes) p []) (first-dropped row (outputs rows) _ f.1)
    ∙ fit-at t rows tubes p f.2 (omega arith)

-- and its shape
pub shape-set : (tube : Tube) (t : ℕ) (row : List Interval) → length row ≡ length (at tube t) →
    map length (slice_set tube t row) ≡ map length tube
shape-set tube t row e = map-set_same length tube t row [] e

pub fit-shape : (t : ℕ) (rows : List (List Interval)) (tubes : List Tube) → AreFit t rows tubes →
    map (map length) (spread_at t (outputs rows) tubes) ≡ map (map length) tubes
fit-shape t [] [] f = refl
fit-shape t [] (tube ∷ tubes) f = absurd f
fit-shape t (row ∷ rows) [] f = absurd f
fit-shape t (row ∷ rows) (tube ∷ tubes) f =
    let head : map length (slice_set tube t (take (length (at tube t)) (row ++ outputs rows))) ≡ map length tube =
    ap (λ bands. map length (slice_set tube t bands)) (first-taken row (outputs rows) _ f.1)
    ∙ shape-set tube t row f.1 in
    let rest : map (map length) (spread_at t (drop (length (at tube t)) (row ++ outputs rows)) tubes)
    ≡ map (map length) tubes =
    ap (λ bands. map (map length) (spread_at t bands tubes)) (first-dropped row (outputs rows) _ f.1)
    ∙ fit-shape t rows tubes f.2 in
    cc
