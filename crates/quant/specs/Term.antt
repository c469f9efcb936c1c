-- Unit equations: a term is written once and read twice, on numbers and on bands.
use Rattle.std.specs.Prelude.{ℕ, ℤ, pos, ◌+ℤ◌, ◌-ℤ◌, List, map, slice_index_or}
use Rattle.quant.specs.Interval.{Interval, point}
use Rattle.quant.specs.Hull.{hull1, hull2, hull4, hull5}
use Rattle.quant.specs.Rounding.{Rounding}
use Rattle.quant.specs.Operation.{share, keep, gain, blend, mix, tray, lookup, clamp}

-- what stands on the right of a unit's equation
pub data Term : Type 0 where
  state : ℕ → Term
  input : ℕ → Term
  number : ℤ → Term
  sum : Term → Term → Term
  difference : Term → Term → Term
  share_of : Term → Term → Term
  rest_of : Term → Term → Term
  blend_of : Term → Term → Term → Term → Term
  -- by a parameter k
  gain_of : ℤ → Term → Term
  mix_of : Term → Term → Term → Term → Term
  -- by a holdup and a slope
  tray_of : ℤ → ℤ → Term → Term → Term → Term → Term → Term
  -- by the points of a table
  lookup_of : List (ℤ × ℤ) → Term → Term
  clamped : Interval → Term → Term

-- the term on numbers
abbrev pub value : Rounding → List ℤ → List ℤ → Term → ℤ
value r states inputs (state n) = slice_index_or states n (pos 0)
value r states inputs (input n) = slice_index_or inputs n (pos 0)
value r states inputs (number z) = z
value r states inputs (sum t u) = value r states inputs t +ℤ value r states inputs u
value r states inputs (difference t u) = value r states inputs t -ℤ value r states inputs u
value r states inputs (share_of t u) = share r (value r states inputs t) (value r states inputs u)
value r states inputs (rest_of t u) = keep r (value r states inputs t) (value r states inputs u)
value r states inputs (blend_of t u v w) = blend r (value r states inputs t) (value r states inputs u)
    (value r states inputs v) (value r states inputs w)
value r states inputs (gain_of k t) = gain r k (value r states inputs t)
value r states inputs (mix_of t u v w) = mix r (value r states inputs t) (value r states inputs u)
    (value r states inputs v) (value r states inputs w)
value r states inputs (tray_of holdup slope t u v w z) =
    tray r holdup slope (value r states inputs t) (value r states inputs u) (value r states inputs v)
    (value r states inputs w) (value r states inputs z)
value r states inputs (lookup_of points t) = lookup r points (value r states inputs t)
value r states inputs (clamped limits t) = clamp limits (value r states inputs t)

-- the term on bands: the same line, each operation by its hull
abbrev pub interval : Rounding → List Interval → List Interval → Term → Interval
interval r states inputs (state n) = slice_index_or states n (point (pos 0))
interval r states inputs (input n) = slice_index_or inputs n (point (pos 0))
interval r states inputs (number z) = point z
interval r states inputs (sum t u) = hull2 ◌+ℤ◌ (interval r states inputs t) (interval r states inputs u)
interval r states inputs (difference t u) = hull2 ◌-ℤ◌ (interval r states inputs t) (interval r states inputs u)
interval r states inputs (share_of t u) = hull2 (share r) (interval r states inputs t) (interval r states inputs u)
interval r states inputs (rest_of t u) = hull2 (keep r) (interval r states inputs t) (interval r states inputs u)
interval r states inputs (blend_of t u v w) = hull4 (blend r) (interval r states inputs t) (interval r states inputs u)
    (interval r states inputs v) (interval r states inputs w)
interval r states inputs (gain_of k t) = hull1 (gain r k) (interval r states inputs t)
interval r states inputs (mix_of t u v w) = hull4 (mix r) (interval r states inputs t) (interval r states inputs u)
    (interval r states inputs v) (interval r states inputs w)
interval r states inputs (tray_of holdup slope t u v w z) =
    hull5 (tray r holdup slope) (interval r states inputs t) (interval r states inputs u) (interval r states inputs v)
    (interval r states inputs w) (interval r states inputs z)
interval r states inputs (lookup_of points t) = hull1 (lookup r points) (interval r states inputs t)
interval r states inputs (clamped limits t) = hull1 (clamp limits) (interval r states inputs t)

-- each term of a list
abbrev pub values : Rounding → List Term → List ℤ → List ℤ → List ℤ
values r terms states inputs = map (value r states inputs) terms

abbrev pub intervals : Rounding → List Term → List Interval → List Interval → List Interval
intervals r terms states inputs = map (interval r states inputs) terms
