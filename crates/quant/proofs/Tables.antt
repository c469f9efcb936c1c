-- What a table gives rises, and lies between its first and its last value.
use Rattle.std.proofs.Common.{◌≡◌, ◌↔◌, ℤ, pos, ◌+ℤ◌, ◌-ℤ◌, ◌*ℤ◌, ◌≤ℤ◌, ℕ, ◌+◌, ◌-◌, ◌*◌, ◌/◌, ◌<◌, ◌≤◌, List, [], ◌∷◌, length, get_or, drop, length-drop, arith, refl, sym, ap, ◌∙◌, subst}
use Rattle.std.proofs.lemmas.Int.{ints, clamps}
use Rattle.std.proofs.lemmas.List.{drop_more}
use Rattle.std.proofs.lemmas.List.Elements.{All-head, All-tail}
use Rattle.std.specs.List.{All}
use Rattle.quant.specs.Hull.{IsMonotone1}
use Rattle.quant.specs.Rounding.{Rounding, Floor, quotient, divisor}
use Rattle.quant.specs.Operation.{not_negative, part, passed, risen, lookup}
use Rattle.quant.specs.Interval.{Holds}
use Rattle.quant.specs.Table.{rates, HasRate, IsStep, AreSteps, IsTable}
use Rattle.quant.proofs.Division.{le-times, one-le_divisor, quotient-rises, quotient-between, quotient-floor}
use Rattle.quant.proofs.Operations.{rises, part-rises}

passed-rises : (r : Rounding) (from to : ℤ × ℤ) (t u : ℤ) → t ≤ℤ u → passed r from to t ≤ℤ passed r from to u
passed-rises r from to t u h =
    let gap = divisor (to.0 -ℤ from.0) in
    let rise = not_negative (to.1 -ℤ from.1) in
    quotient-rises r (rise *ℤ part gap (t -ℤ from.0)) (rise *ℤ part gap (u -ℤ from.0)) gap
    (le-times (part gap (t -ℤ from.0)) (part gap (u -ℤ from.0)) rise (omega (arith, ints, clamps))
    (part-rises gap (t -ℤ from.0) (u -ℤ from.0) (omega (arith, ints))))

risen-rises : (r : Rounding) (points : List (ℤ × ℤ)) (t u : ℤ) → t ≤ℤ u → risen r points t ≤ℤ risen r points u
risen-rises r [] t u h = omega (arith, ints)
risen-rises r (from ∷ []) t u h = omega (arith, ints)
risen-rises r (from ∷ to ∷ rest) t u h = omega
    (arith, ints, passed-rises r from to t u h, risen-rises r (to ∷ rest) t u h)

pub lookup-rises : (r : Rounding) (points : List (ℤ × ℤ)) (t u : ℤ) → t ≤ℤ u → lookup r points t ≤ℤ lookup r points u
unfolding lookup
lookup-rises r [] t u h = omega (arith, ints)
lookup-rises r (first ∷ rest) t u h = omega (arith, ints, risen-rises r (first ∷ rest) t u h)

pub lookup-monotone : (r : Rounding) (points : List (ℤ × ℤ)) → IsMonotone1 (lookup r points)
lookup-monotone r points = rises (lookup r points) (lookup-rises r points)

-- what is passed of a step lies between nothing and its rise
pub passed-between : (r : Rounding) (from to : ℤ × ℤ) (t : ℤ) → IsStep from to →
    (pos 0 ≤ℤ passed r from to t) × (passed r from to t ≤ℤ (to.1 -ℤ from.1))
passed-between r from to t s =
    let gap = to.0 -ℤ from.0 in
    let w = divisor gap in
    let rise = not_negative (to.1 -ℤ from.1) in
    let e : rise ≡ to.1 -ℤ from.1 = omega (arith, ints, clamps, s.no_less) in
    let p : pos 0 ≤ℤ rise = omega (arith, ints, clamps) in
    let n = part w (t -ℤ from.0) in
    let o = one-le_divisor gap in
    let low : (pos 0 *ℤ divisor w) ≤ℤ (rise *ℤ n) =
    omega (arith, ints, le-times (pos 0) n rise p (omega (arith, ints, clamps))) in
    let high : (rise *ℤ n) ≤ℤ (rise *ℤ divisor w) = le-times n (divisor w) rise p (omega (arith, ints, clamps)) in
    let both = quotient-between r (pos 0) rise (rise *ℤ n) w low high in
    (both.0, omega (arith, ints, e, both.1))

-- the rise and the part that the code takes are those of the definition
pub same-passed : (r : Rounding) (from to : ℤ × ℤ) (t rise gone gap : ℤ) → IsStep from to →
    rise ≡ to.1 -ℤ from.1 → gone ≡ part (to.0 -ℤ from.0) (t -ℤ from.0) → gap ≡ to.0 -ℤ from.0 →
    quotient r (rise *ℤ gone) gap ≡ passed r from to t
same-passed r from to t rise n gap s e f g =
    let w : gap ≡ divisor (to.0 -ℤ from.0) = omega (arith, ints, clamps, s.hotter) in
    let h : rise ≡ not_negative (to.1 -ℤ from.1) = omega (arith, ints, clamps, s.no_less) in
    let k : n ≡ part (divisor (to.0 -ℤ from.0)) (t -ℤ from.0) = f ∙ ap (λ v. part v (t -ℤ from.0)) (sym g ∙ w) in
    ap (λ a. quotient r (a *ℤ n) gap) h ∙ ap (λ a. quotient r (not_negative (to.1 -ℤ from.1) *ℤ a) gap) k
    ∙ ap (quotient r (not_negative (to.1 -ℤ from.1) *ℤ part (divisor (to.0 -ℤ from.0)) (t -ℤ from.0))) w

-- the code divides natural numbers
pub natural-passed : (from to : ℤ × ℤ) (t : ℤ) (rise gone gap : ℕ) → IsStep from to →
    pos rise ≡ to.1 -ℤ from.1 → pos gone ≡ part (to.0 -ℤ from.0) (t -ℤ from.0) → pos gap ≡ to.0 -ℤ from.0 →
    pos (rise * gone / gap) ≡ passed Floor from to t
natural-passed from to t rise gone gap s e f g =
    quotient-floor (pos rise *ℤ pos gone) (pos gap) _ _ (pos (rise * gone / gap))
    (omega (arith, ints, s.hotter)) refl refl refl
    ∙ same-passed Floor from to t (pos rise) (pos gone) (pos gap) s e f g

-- the points from one on are the two, and those behind them
two-more : (points : List (ℤ × ℤ)) (i : ℕ) (d : ℤ × ℤ) → 1 ≤ i → i < length points →
    drop (i - 1) points ≡ get_or points (i - 1) d ∷ get_or points i d ∷ drop (i + 1) points
two-more points i d h l =
    let back : (i - 1) + 1 ≡ i = omega arith in
    drop_more points (i - 1) d (omega arith) ∙ ap (λ k. get_or points (i - 1) d ∷ drop k points) back ∙
    ap (λ xs. get_or points (i - 1) d ∷ xs) (drop_more points i d l)

-- they are steps where the second of them is, and the points from there on are
pub steps-from : (points : List (ℤ × ℤ)) (i : ℕ) (d : ℤ × ℤ) → 1 ≤ i → i < length points →
    AreSteps (drop (i - 1) points) ↔ (IsStep (get_or points (i - 1) d) (get_or points i d) × AreSteps (drop i points))
steps-from points i d h l =
    let e = two-more points i d h l in
    let f = drop_more points i d l in (
      (λ s. let w = subst AreSteps e s in (w.0, subst AreSteps (sym f) w.1)),
      (λ s. subst AreSteps (sym e) (s.0, subst AreSteps f s.1)),
    )

one-step : (points : List (ℤ × ℤ)) → length points ≤ 1 → AreSteps points
one-step [] h = tt
one-step (from ∷ []) h = tt
one-step (from ∷ to ∷ rest) h = absurd (omega arith)

pub last-step : (points : List (ℤ × ℤ)) (i : ℕ) → length points ≤ i → AreSteps (drop (i - 1) points)
last-step points i h = one-step (drop (i - 1) points) (omega (arith, length-drop (i - 1) points))

-- the first rate that is left
abbrev pub first_rate : List (ℤ × ℤ) → ℤ
first_rate [] = pos 0
first_rate (first ∷ rest) = first.1

-- the rate so far and the rises that are left make the value
pub record IsUnderWay (points rest : List (ℤ × ℤ)) (t rate : ℤ) : Type 0 where
  pub value : rate +ℤ risen Floor rest t ≡ lookup Floor points t
  pub above : pos 0 ≤ℤ rate
  pub below : rate ≤ℤ first_rate rest
  pub each : All HasRate rest
  pub steps : AreSteps rest

pub under-way-start : (points : List (ℤ × ℤ)) (d : ℤ × ℤ) (t rate : ℤ) → IsTable points →
    rate ≡ (get_or points 0 d).1 → IsUnderWay points points t rate
unfolding lookup
under-way-start [] d t rate h e = absurd (omega (arith, h.some))
under-way-start (first ∷ rest) d t rate h e =
    let p = All-head HasRate first rest h.each in
    record {
      value = ap (λ a. a +ℤ risen Floor (first ∷ rest) t) e;
      above = omega (arith, ints, p.above);
      below = omega (arith, ints);
      each = h.each;
      steps = h.steps;
    }

under-way-step : (points rest : List (ℤ × ℤ)) (from to : ℤ × ℤ) (t rate n : ℤ) →
    IsUnderWay points (from ∷ to ∷ rest) t rate → n ≡ rate +ℤ passed Floor from to t →
    IsUnderWay points (to ∷ rest) t n
under-way-step points rest from to t rate n h e =
    let b = passed-between Floor from to t h.steps.0 in
    let v = h.value in
    record {
      value = omega (arith, ints);
      above = omega (arith, ints, h.above);
      below = omega (arith, ints, h.below);
      each = All-tail HasRate from (to ∷ rest) h.each;
      steps = h.steps.1;
    }

pub under-way-more : (points : List (ℤ × ℤ)) (i : ℕ) (d : ℤ × ℤ) (t rate n : ℤ) → 1 ≤ i → i < length points →
    IsUnderWay points (drop (i - 1) points) t rate →
    n ≡ rate +ℤ passed Floor (get_or points (i - 1) d) (get_or points i d) t → IsUnderWay points (drop i points) t n
under-way-more points i d t rate n h l w e =
    subst (λ xs. IsUnderWay points xs t n) (sym (drop_more points i d l))
    (under-way-step points (drop (i + 1) points) (get_or points (i - 1) d) (get_or points i d) t rate n
    (subst (λ xs. IsUnderWay points xs t rate) (two-more points i d h l) w) e)

-- the points that are left are points in steps
pub under-way-points : (points : List (ℤ × ℤ)) (i : ℕ) (d : ℤ × ℤ) (t rate : ℤ) → 1 ≤ i → i < length points →
    IsUnderWay points (drop (i - 1) points) t rate →
    HasRate (get_or points (i - 1) d) × HasRate (get_or points i d) × IsStep (get_or points (i - 1) d)
    (get_or points i d) × (rate ≤ℤ (get_or points (i - 1) d).1)
under-way-points points i d t rate h l w =
    let u = subst (λ xs. IsUnderWay points xs t rate) (two-more points i d h l) w in
    let rest = drop (i + 1) points in
    let to = get_or points i d in (
      All-head HasRate (get_or points (i - 1) d) (to ∷ rest) u.each,
      All-head HasRate to rest (All-tail HasRate (get_or points (i - 1) d) (to ∷ rest) u.each),
      u.steps.0,
      u.below,
    )

-- with one point left the rate is the value
under-way-last : (points rest : List (ℤ × ℤ)) (t rate : ℤ) → length rest ≡ 1 → IsUnderWay points rest t rate →
    (rate ≡ lookup Floor points t) × Holds rates rate
under-way-last points [] t rate h w = absurd (omega arith)
under-way-last points (last ∷ []) t rate h w =
    let v = w.value in
    let p = All-head HasRate last [] w.each in
    (omega (arith, ints), record { above = w.above; below = omega (arith, ints, w.below, p.below) })
under-way-last points (from ∷ to ∷ rest) t rate h w = absurd (omega arith)

pub under-way-end : (points : List (ℤ × ℤ)) (i : ℕ) (t rate : ℤ) → i ≡ length points → 1 ≤ i →
    IsUnderWay points (drop (i - 1) points) t rate →
    (rate ≡ lookup Floor points t) × Holds rates rate
under-way-end points i t rate e h w = under-way-last points (drop (i - 1) points) t rate
    (omega (arith, length-drop (i - 1) points)) w
