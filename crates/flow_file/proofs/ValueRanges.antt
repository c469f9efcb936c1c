-- The ranges of single values: numbers, bands, names.
use Rattle.std.proofs.Common.{◌≡◌, ℕ, ℤ, Bool, true, Option, Some, None, arith}
use Rattle.std.specs.Prelude.{◌&&◌, int_le, nat_abs}
use Rattle.std.proofs.lemmas.Int.{ints}
use Rattle.quant.specs.Interval.{Interval, Holds, wide}
use Rattle.parts.specs.InRange.{from_to, IsBetween, IsWide, IsName, IsReference}
use Rattle.plant_names.specs.Name.{is_name, is_reference}
use Rattle.toml.specs.Data.{as_integer, as_array}
use Rattle.flow_file.specs.declared.fault.TextFault.TheVariants as fault
use Rattle.flow_file.specs.Read.{Reading}
use Rattle.flow_file.specs.Value.{Bytes, or_fault, is_in, number_in, count_in, band_between}
use Rattle.flow_file.specs.Value.{pair_of, number_band, pair_band, band_of}
use Rattle.flow_file.specs.Value.{text_of, formed_text, name_of, reference_of}
use Rattle.flow_file.proofs.Yields.{Yields, Reads, given, anything, after, tested}

pub holds : (range : Interval) (number : ℤ) → is_in range number ≡ true → Holds range number
holds range number passed = record { above = grind (arith, ints); below = grind (arith, ints) }

-- a whole number of a range
pub number : (range : Interval) → Reads (Holds range) (number_in range)
unfolding number_in
number range place node =
    after (anything (or_fault (as_integer node) (fault.WrongType place))) (λ found _.
    tested _ _ _ (holds range found))

pub is_between : (lo hi : ℕ) (number : ℤ) → Holds (from_to lo hi) number → IsBetween lo hi (nat_abs number)
is_between lo hi number held = (omega (arith, ints), omega (arith, ints))

pub count : (lo hi : ℕ) → Reads (IsBetween lo hi) (count_in lo hi)
unfolding count_in
count lo hi place node = after (number (from_to lo hi) place node) (λ found held. given (is_between lo hi found held))

-- a band of wide numbers
is_wide : (lo hi : ℤ) → ((int_le wide.lo lo && int_le lo hi) && int_le hi wide.hi) ≡ true →
    IsWide (record { lo = lo; hi = hi })
is_wide lo hi passed =
    (record { ordered = grind (arith, ints) }, record { above = grind (arith, ints); below = grind (arith, ints) })

pub between : (place : Bytes) (lo hi : ℤ) → Yields IsWide (band_between place lo hi)
unfolding band_between
between place lo hi = tested _ _ _ (is_wide lo hi)

pair : Reads IsWide pair_band
unfolding pair_band
pair place node =
    after (anything (or_fault (as_array node) (fault.WrongType place))) (λ array _.
    after (anything (or_fault (pair_of array) (fault.WrongType place))) (λ ends _.
    between place ends.0 ends.1))

number_or_pair : (place : Bytes) (found : Option ℤ) (ends : Reading Interval) → Yields IsWide ends →
    Yields IsWide (number_band place found ends)
number_or_pair place (Some n) ends are_wide = between place n n
number_or_pair place None ends are_wide = are_wide

pub band : Reads IsWide band_of
unfolding band_of
band place node = number_or_pair place (as_integer node) _ (pair place node)

-- a text of one form: a name, and a reference
formed : (is : Bytes → Bool) → Reads (λ text. is text ≡ true) (formed_text is)
unfolding formed_text
formed is place node = after (anything (text_of place node)) (λ text _. tested _ _ _ (λ passed. passed))

pub name : Reads IsName name_of
name = formed is_name

pub reference : Reads IsReference reference_of
reference = formed is_reference
