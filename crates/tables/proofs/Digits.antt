-- No byte of a number's text needs quotes.
use Rattle.std.proofs.Common.{◌≡◌, ℕ, suc, ◌^◌, ◌<◌, ◌≤◌, ◌||◌, false, List, [], ◌∷◌, ℤ, pos, negsuc, refl, arith}
use lib.Signed.{mag}
use Rattle.std.proofs.lemmas.Bool.{ne_eqb}
use Rattle.std.proofs.lemmas.Fmt.{decimal_is_IsNumeral}
use Rattle.std.proofs.lemmas.Str.Parse.{digit_from_value}
use Rattle.std.specs.Fmt.{decimal, signed_decimal}
use Rattle.std.specs.Str.Parse.{AllDigits}
use Rattle.csv.specs.Writing.{needs_quotes, needs_byte}
use Rattle.csv.specs.declared.writer.QuoteStyle.TheVariants.{Necessary}
use Rattle.tables.specs.Writer.{table_writer}

byte_plain : (c : ℕ) → 45 ≤ c → needs_byte (table_writer Necessary) c ≡ false
byte_plain c high = rw (
  ne_eqb c 44 (λ e. omega arith),
  ne_eqb c 34 (λ e. omega arith),
  ne_eqb c 13 (λ e. omega arith),
  ne_eqb c 10 (λ e. omega arith),
) refl

digits_plain : (ds : List ℕ) → AllDigits 10 ds → needs_quotes (table_writer Necessary) ds ≡ false
digits_plain [] all = refl
digits_plain (c ∷ ds) all = rw (
  byte_plain c (let in_range = digit_from_value c all.0 in omega arith),
  digits_plain ds all.1,
) refl

decimal_plain : (n : ℕ) → n < 2 ^ 64 → needs_quotes (table_writer Necessary) (decimal n) ≡ false
decimal_plain n small = digits_plain (decimal n) (decimal_is_IsNumeral n small).0.1

pub number_plain : (z : ℤ) → mag z < 2 ^ 63 → needs_quotes (table_writer Necessary) (signed_decimal z) ≡ false
number_plain (pos n) small = decimal_plain n (omega arith)
number_plain (negsuc n) small = rw (decimal_plain (suc n) (omega arith)) refl
