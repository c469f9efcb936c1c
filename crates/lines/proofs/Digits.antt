-- Decimal digits: the number that a loop over them has read so far, and written numbers that are read back.
use Rattle.std.proofs.Common.{◌≡◌, ℕ, ℤ, pos, negsuc, rules, Some, ◌+◌, suc, ◌-ℤ◌, ◌-◌, ◌*◌, ◌^◌, ◌<◌, ◌≤◌, Bool, true, false, List, ◌∷◌, length, get_or, map, take, refl, ◌∙◌, ap, arith, length-take}
use Rattle.std.specs.List.{list_all}
use Rattle.std.specs.Char.{is_ascii_digit}
use Rattle.std.proofs.lemmas.List.{take-map, get_or-map, length-map}
use Rattle.std.proofs.lemmas.Int.{ints}
use Rattle.std.proofs.lemmas.Int.Digits.{number_more}
use Rattle.std.proofs.Math.Nat.{pow-le-pow_right}
use Rattle.std.proofs.lemmas.Str.Parse.{IsNumeralModel, numerals_by_fold, digits_value_short}
use Rattle.std.proofs.lemmas.Fmt.{decimal_nonempty, length-decimal-le, digits_decimal, digits_value-decimal}
use Rattle.std.specs.Fmt.{decimal, signed_decimal}
use Rattle.std.specs.Int.Digits.{number_from_digits_after}
use Rattle.std.specs.Prelude.{unsigned_abs}
use Rattle.lines.specs.Numbers.{digits_value, are_digits, number_in}

pub value_more : (field : List ℕ) (i : ℕ) → i < length field →
    digits_value (take (i + 1) field) ≡ digits_value (take i field) * 10 + (get_or field i 0 - 48)
value_more field i within =
    let digits = map (λ (byte : ℕ). byte - 48) field in
    let more = number_more 10 digits i (omega (arith, length-map field (λ (byte : ℕ). byte - 48))) in
    simp (take-map, get_or-map (λ (byte : ℕ). byte - 48) field i 0 0 within) at more

own : IsNumeralModel (λ field. list_all is_ascii_digit field ≡ true) digits_value
own =
    let read_on = λ (n : ℕ) (field : List ℕ). number_from_digits_after 10 n (map (λ byte. byte - 48) field) in
    numerals_by_fold _ (search rules) read_on (search rules)

pub value_small : (field : List ℕ) (i : ℕ) → list_all is_ascii_digit (take i field) ≡ true → i < 18 →
    digits_value (take i field) < 10 ^ 17
value_small field i all few =
    let short : length (take i field) ≤ 17 = omega (arith, length-take i field) in
    digits_value_short own (take i field) 17 all short

below_2^64 : (digits n : ℕ) → digits ≤ 18 → n < 10 ^ digits → n < 2 ^ 64
below_2^64 digits n few small = let most = pow-le-pow_right {n = 10} (omega arith) few in omega (arith, most)

decimal_digits : (digits n : ℕ) → 1 ≤ digits → digits ≤ 18 → n < 10 ^ digits → are_digits digits (decimal n) ≡ true
decimal_digits digits n some few small =
    let fits = below_2^64 digits n few small in
    let least = decimal_nonempty n fits in
    let most = length-decimal-le digits n some small fits in
    let all : list_all is_ascii_digit (decimal n) ≡ true = digits_decimal own n fits in
    grind (arith, all, least, most)

pub count_read : (digits n : ℕ) (signed : Bool) → 1 ≤ digits → digits ≤ 18 → n < 10 ^ digits →
    number_in digits signed (decimal n) ≡ Some (pos n)
unfolding number_in
count_read digits n signed some few small =
    let written = decimal_digits digits n some few small in
    let value : digits_value (decimal n) ≡ n = digits_value-decimal own n (below_2^64 digits n few small) in
    rw (written, value) refl

negative_read : (digits n : ℕ) (field : List ℕ) → are_digits digits field ≡ true → digits_value field ≡ n →
    number_in digits true (45 ∷ field) ≡ Some (pos 0 -ℤ pos n)
unfolding number_in
negative_read digits n field written value =
    let sign : are_digits digits (45 ∷ field) ≡ false = grind arith in
    rw (sign, written, value) refl

pub number_read : (digits : ℕ) (z : ℤ) → 1 ≤ digits → digits ≤ 18 → unsigned_abs z < 10 ^ digits →
    number_in digits true (signed_decimal z) ≡ Some z
number_read digits (pos n) some few small = count_read digits n true some few small
number_read digits (negsuc n) some few small =
    let below : pos 0 -ℤ pos (suc n) ≡ negsuc n = omega (arith, ints) in
    negative_read digits (suc n) (decimal (suc n)) (decimal_digits digits (suc n) some few small)
    (digits_value-decimal own (suc n) (below_2^64 digits (suc n) few small))
    ∙ ap Some below
