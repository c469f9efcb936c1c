-- Names and references as a plant file writes them.
use Rattle.std.specs.Prelude.{◌==◌, ◌&&◌, ◌||◌, ℕ, nat_le, nat_lt, Bool, List, length, slice_index, if◌then◌else◌}
use Rattle.std.specs.List.{list_all, position_or_len, before_first, after_first}

-- a letter; a letter, a digit or `_`
abbrev pub is_letter : ℕ → Bool
is_letter b = nat_le 97 b && nat_le b 122

abbrev pub is_name_byte : ℕ → Bool
is_name_byte b = (is_letter b || (nat_le 48 b && nat_le b 57)) || b == 95

-- a name: 1 to 32 letters, digits and `_` that begin with a letter
unfoldable pub is_name : List ℕ → Bool
is_name bytes = (nat_le (length bytes) 32 && is_letter (slice_index bytes 0)) && list_all is_name_byte bytes

-- the dot between the name of a unit and that of its output
abbrev pub is_dot : ℕ → Bool
is_dot b = b == 46

-- a reference: a name, or two names with a dot between them
unfoldable pub is_reference : List ℕ → Bool
is_reference bytes =
    if nat_lt (position_or_len is_dot bytes) (length bytes) then is_name (before_first is_dot bytes) && is_name (after_first is_dot bytes)
    else is_name bytes
