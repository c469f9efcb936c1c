-- Quotients in whole numbers.
use Rattle.std.specs.Prelude.{ℤ, pos, ◌+ℤ◌, ◌*ℤ◌}
use Rattle.std.specs.Int.{int_max, int_div_euclid}

-- how a quotient is made whole: downward, or to the nearest whole number with ties upward
pub data Rounding : Type 0 where
  Floor : Rounding
  Nearest : Rounding

-- a divisor, which is at least 1
abbrev pub divisor : ℤ → ℤ
divisor b = int_max (pos 1) b

-- a divided by b
unfoldable pub quotient : Rounding → ℤ → ℤ → ℤ
quotient Floor a b = int_div_euclid a (divisor b)
quotient Nearest a b = int_div_euclid (pos 2 *ℤ a +ℤ divisor b) (pos 2 *ℤ divisor b)
