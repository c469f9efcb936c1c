-- The numbers that fields write.
use Rattle.std.specs.Prelude.{◌&&◌, ◌==◌, ◌-◌, ℕ, ℤ, pos, ◌-ℤ◌, nat_le, Bool, List, [], ◌∷◌, length, map, Option, Some, None, if◌then◌else◌}
use Rattle.std.specs.List.{list_all}
use Rattle.std.specs.Char.{is_ascii_digit}
use Rattle.std.specs.Int.Digits.{number_from_digits}

-- 1 to so many decimal digits, and nothing else
abbrev pub are_digits : ℕ → List ℕ → Bool
are_digits most field = (nat_le 1 (length field) && nat_le (length field) most) && list_all is_ascii_digit field

-- the number that decimal digits write
abbrev pub digits_value : List ℕ → ℕ
digits_value field = number_from_digits 10 (map (λ byte. byte - 48) field)

-- the number below zero that a field writes with a minus before its digits
abbrev pub negative_in : ℕ → List ℕ → Option ℤ
negative_in most [] = None
negative_in most (sign ∷ field) =
    if (sign == 45) && are_digits most field then Some (pos 0 -ℤ pos (digits_value field)) else None

-- the number that a field writes, where it writes one: 1 to so many decimal digits, after one minus where signs are
-- allowed
unfoldable pub number_in : ℕ → Bool → List ℕ → Option ℤ
number_in most signed field =
    if are_digits most field then Some (pos (digits_value field))
    else if signed then negative_in most field
    else None
