-- A table is linear between two neighbours: the rises before them have been passed, and those behind them have not
-- begun.
use Rattle.std.proofs.Common.{◌≡◌, ℤ, pos, ◌+ℤ◌, ◌-ℤ◌, ◌*ℤ◌, ◌≤ℤ◌, List, [], ◌∷◌, ◌++◌, arith, refl, sym, ap, ◌∙◌}
use Rattle.std.proofs.lemmas.Int.{ints, clamps}
use Rattle.quant.specs.Rounding.{Rounding, quotient}
use Rattle.quant.specs.Operation.{passed, risen, lookup}
use Rattle.quant.specs.Table.{IsStep, AreSteps}
use Rattle.quant.proofs.Division.{quotient-exact_whole}
use Rattle.quant.proofs.Tables.{same-passed}

-- what a temperature has passed of a step between whose points it lies
pub passed-within : (r : Rounding) (from to : ℤ × ℤ) (t : ℤ) → IsStep from to → from.0 ≤ℤ t → t ≤ℤ to.0 →
    passed r from to t ≡ quotient r ((to.1 -ℤ from.1) *ℤ (t -ℤ from.0)) (to.0 -ℤ from.0)
passed-within r from to t s h k =
    sym (same-passed r from to t (to.1 -ℤ from.1) (t -ℤ from.0) (to.0 -ℤ from.0) s refl
    (omega (arith, ints, clamps)) refl)

-- nothing of one that it has not reached, and the whole of one that it has left behind
passed-before : (r : Rounding) (from to : ℤ × ℤ) (t : ℤ) → IsStep from to → t ≤ℤ from.0 → passed r from to t ≡ pos 0
passed-before r from to t s h =
    let gap = to.0 -ℤ from.0 in
    let o : pos 1 ≤ℤ gap = omega (arith, ints, s.hotter) in
    let none : (to.1 -ℤ from.1) *ℤ pos 0 ≡ pos 0 *ℤ gap = omega (arith, ints) in
    sym (same-passed r from to t (to.1 -ℤ from.1) (pos 0) gap s refl (omega (arith, ints, clamps, s.hotter)) refl)
    ∙ ap (λ a. quotient r a gap) none ∙ quotient-exact_whole r (pos 0) gap o

passed-whole : (r : Rounding) (from to : ℤ × ℤ) (t : ℤ) → IsStep from to → to.0 ≤ℤ t →
    passed r from to t ≡ to.1 -ℤ from.1
passed-whole r from to t s h =
    let gap = to.0 -ℤ from.0 in
    sym (same-passed r from to t (to.1 -ℤ from.1) gap gap s refl (omega (arith, ints, clamps, s.hotter)) refl)
    ∙ quotient-exact_whole r (to.1 -ℤ from.1) gap (omega (arith, ints, s.hotter))

-- below the first point nothing has risen
risen-before : (r : Rounding) (first : ℤ × ℤ) (rest : List (ℤ × ℤ)) (t : ℤ) → AreSteps (first ∷ rest) → t ≤ℤ first.0 →
    risen r (first ∷ rest) t ≡ pos 0
risen-before r first [] t s h = refl
risen-before r first (to ∷ rest) t s h =
    let step = s.0 in
    omega (
      arith,
      ints,
      step.hotter,
      passed-before r first to t step h,
      risen-before r to rest t s.1 (omega (arith, ints, step.hotter)),
    )

pub lookup-below : (r : Rounding) (first : ℤ × ℤ) (rest : List (ℤ × ℤ)) (t : ℤ) → AreSteps (first ∷ rest) →
    t ≤ℤ first.0 → lookup r (first ∷ rest) t ≡ first.1
unfolding lookup
lookup-below r first rest t s h = omega (arith, ints, risen-before r first rest t s h)

-- a step that has been left behind can be left out
lookup-behind : (r : Rounding) (from to : ℤ × ℤ) (rest : List (ℤ × ℤ)) (t : ℤ) → IsStep from to → to.0 ≤ℤ t →
    lookup r (from ∷ to ∷ rest) t ≡ lookup r (to ∷ rest) t
unfolding lookup
lookup-behind r from to rest t s h = omega (arith, ints, passed-whole r from to t s h)

-- a point further on is not colder
no_colder : (first : ℤ × ℤ) (before : List (ℤ × ℤ)) (from : ℤ × ℤ) (rest : List (ℤ × ℤ)) →
    AreSteps (first ∷ before ++ from ∷ rest) → first.0 ≤ℤ from.0
no_colder first [] from rest s = let step = s.0 in omega (arith, ints, step.hotter)
no_colder first (next ∷ before) from rest s = let step =
    s.0 in omega (arith, ints, step.hotter, no_colder next before from rest s.1)

-- so can all of them
lookup-from : (r : Rounding) (before : List (ℤ × ℤ)) (from : ℤ × ℤ) (rest : List (ℤ × ℤ)) (t : ℤ) →
    AreSteps (before ++ from ∷ rest) → from.0 ≤ℤ t →
    (lookup r (before ++ from ∷ rest) t ≡ lookup r (from ∷ rest) t) × AreSteps (from ∷ rest)
lookup-from r [] from rest t s h = (refl, s)
lookup-from r (first ∷ []) from rest t s h = (lookup-behind r first from rest t s.0 h, s.1)
lookup-from r (first ∷ next ∷ before) from rest t s h =
    let k = lookup-from r (next ∷ before) from rest t s.1 h in
    let l = no_colder next before from rest s.1 in
    (lookup-behind r first next (before ++ from ∷ rest) t s.0 (omega (arith, ints)) ∙ k.0, k.1)

pub lookup-above : (r : Rounding) (before : List (ℤ × ℤ)) (last : ℤ × ℤ) (t : ℤ) → AreSteps (before ++ last ∷ []) →
    last.0 ≤ℤ t →
    lookup r (before ++ last ∷ []) t ≡ last.1
unfolding lookup
lookup-above r before last t s h = (lookup-from r before last [] t s h).0 ∙ omega (arith, ints)

pub lookup-between : (r : Rounding) (before after : List (ℤ × ℤ)) (from to : ℤ × ℤ) (t : ℤ) →
    AreSteps (before ++ from ∷ to ∷ after) → from.0 ≤ℤ t → t ≤ℤ to.0 →
    lookup r (before ++ from ∷ to ∷ after) t ≡ from.1 +ℤ quotient r ((to.1 -ℤ from.1) *ℤ (t -ℤ from.0)) (to.0 -ℤ from.0)
unfolding lookup
lookup-between r before after from to t s h l =
    let k = lookup-from r before from (to ∷ after) t s h in
    let steps = k.1 in
    k.0 ∙ omega (arith, ints, passed-within r from to t steps.0 h l, risen-before r to after t steps.1 l)
