use Rattle.std.proofs.Common.{◌≡◌, pos, true, take}
use Rattle.std.specs.List.{list_all}
use Rattle.std.specs.Char.{is_ascii_digit}
use Rattle.lines.specs.Numbers.{digits_value}
use Rattle.lines.proofs.numbers.count_at.Given as goal

abbrev pub invariant-loop-byte : goal.invariant-loop-byte
invariant-loop-byte l =
    (l.value ≡ pos (digits_value (take l.byte-index l.field)))
    × (list_all is_ascii_digit (take l.byte-index l.field) ≡ true)
