-- The places of a tube, and where they stand in the list that it is kept as.
use Rattle.std.proofs.Common.{◌≡◌, ℕ, zero, suc, ◌+◌, ◌*◌, ◌<◌, ◌≤◌, List, length, take, drop, slice_index_or, pos, sym, subst, ap, ◌∙◌, arith}
use Rattle.std.specs.Prelude.{slice_set}
use Rattle.std.proofs.Math.Nat.{mul-le-mul_right}
use Rattle.std.proofs.Math.Seq.{take-set-lt}
use Rattle.std.proofs.lemmas.List.{take-set-le, drop-set-add, drop-set-lt, get_or-drop, get_or-take, length-drop, length-take-le}
use Rattle.quant.proofs.Calls.{same_cons}
use Rattle.quant.specs.Interval.{Interval, point}
use Rattle.relaxation.specs.Tube.{Tube, at}
use Rattle.tubes.specs.Cut.{cut}
use Rattle.tubes.specs.Shape.{band_at, set_at}
use Rattle.tubes.proofs.Cuts.{cut_at, cut_counted}

-- a tick that is there ends inside the list
pub inside : (n c t : ℕ) → t < n → t * c + c ≤ n * c
inside n c t h = (let k : suc t * c ≤ n * c = mul-le-mul_right c h in omega arith)

-- the list with another band is the tube with another band
pub cut_set : (n c t d : ℕ) (xs : List Interval) (b : Interval) → t < n → d < c →
    cut n c (slice_set xs (t * c + d) b) ≡ set_at (cut n c xs) t d b
cut_set zero c t d xs b h k = absurd (omega arith)
cut_set (suc n) c zero d xs b h k =
    let e : 0 * c + d ≡ d = omega arith in
    rw e (same_cons _ _ _ _ (take-set-lt c xs d b k) (ap (cut n c) (drop-set-lt c xs d b k)))
cut_set (suc n) c (suc t) d xs b h k =
    let e : suc t * c + d ≡ c + (t * c + d) = omega arith in
    rw e (same_cons _ _ _ _ (take-set-le c xs (c + (t * c + d)) b (omega arith))
    (ap (cut n c) (drop-set-add c xs (t * c + d) b) ∙ cut_set n c t d (drop c xs) b (omega arith) k))

-- a tube that is kept as a list
module _ (n c : ℕ) (xs : List Interval) (A : Tube) (kept : cut n c xs ≡ A) (size : length xs ≡ n * c) (t : ℕ) (h : t < length A) where
  pub tick_there : t < n
  tick_there = subst (λ k. t < k) (ap length (sym kept) ∙ cut_counted n c xs) h

  pub row_is : take c (drop (t * c) xs) ≡ at A t
  row_is = sym (cut_at n c t xs tick_there) ∙ ap (λ B. at B t) kept

  pub row_fits : t * c + c ≤ length xs
  row_fits = rw size (inside n c t tick_there)

  pub row_length : length (at A t) ≡ c
  row_length = ap length (sym row_is) ∙ length-take-le c (drop (t * c) xs) (rw (length-drop (t * c) xs) (let k : t * c + c ≤ length xs = row_fits in omega arith))

  module _ (d : ℕ) (k : d < length (at A t)) where
    pub channel_there : d < c
    channel_there = subst (λ e. d < e) row_length k

    pub place_there : t * c + d < length xs
    place_there = (let l : t * c + c ≤ length xs = row_fits in let m : d < c = channel_there in omega arith)

    pub place_is : slice_index_or xs (t * c + d) (point (pos 0)) ≡ band_at A t d
    place_is =
        sym (get_or-drop (t * c) xs d (point (pos 0)))
        ∙ (sym (get_or-take c (drop (t * c) xs) d (point (pos 0)) channel_there)
        ∙ ap (λ row. slice_index_or row d (point (pos 0))) row_is)

    pub set_is : (b : Interval) → cut n c (slice_set xs (t * c + d) b) ≡ set_at A t d b
    set_is b = cut_set n c t d xs b tick_there channel_there ∙ ap (λ B. set_at B t d b) kept
