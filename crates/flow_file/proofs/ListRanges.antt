-- The ranges of lists: their lengths, and those of their values.
use Rattle.std.proofs.Common.{◌≡◌, ℕ, suc, ◌≤◌, true, List, length, refl, ap, arith}
use Rattle.std.specs.Prelude.{nat_le}
use Rattle.std.specs.List.{AllByRecursion}
use Rattle.std.proofs.lemmas.Bool.Decides.{nat_tests}
use Rattle.parts.specs.InRange.{AreBetween}
use Rattle.toml.specs.Data.{Data, Items, no_items, item, as_array}
use Rattle.flow_file.specs.declared.fault.TextFault.TheVariants as fault
use Rattle.flow_file.specs.Read.{Reading}
use Rattle.flow_file.specs.Value.{Bytes, or_fault, item_place, item_count, array_between, read_from, list_of}
use Rattle.flow_file.proofs.Yields.{Yields, Reads, given, anything, after, tested}

at_most : (n most : ℕ) → nat_le n most ≡ true → n ≤ most
at_most n most passed = grind (arith, nat_tests)

-- the values of an array are as many as it may have
has_length : (least most : ℕ) (place : Bytes) (node : Data) →
    Yields (λ items. (least ≤ item_count items) × (item_count items ≤ most)) (array_between least most place node)
unfolding array_between
has_length least most place node =
    after (anything (or_fault (as_array node) (fault.WrongType place))) (λ array _.
    after (tested (nat_le (item_count array) most) array (fault.TooMany place) (at_most (item_count array) most))
    (λ short few.
    tested _ _ _ (λ passed. (at_most least (item_count short) passed, few))))

-- each value of an array is read
each_of : {A : Type 0} {P : A → Type 0} {read : Bytes → Data → Reading A} → Reads P read →
    (place : Bytes) (i : ℕ) (items : Items) →
    Yields (λ xs. (length xs ≡ item_count items) × AllByRecursion P xs) (read_from read place i items)
each_of each place i no_items = given (refl, tt)
each_of each place i (item node rest) =
    after (each (item_place place i) node) (λ x x_is.
    after (each_of each place (suc i) rest) (λ xs xs_are.
    given (ap suc xs_are.0, (x_is, xs_are.1))))

are_between : {A : Type 0} (P : A → Type 0) (least most n : ℕ) (xs : List A) →
    (least ≤ n) × (n ≤ most) → (length xs ≡ n) × AllByRecursion P xs → AreBetween least most P xs
are_between P least most n xs sized all = (omega arith, omega arith, all.1)

pub list : {A : Type 0} {P : A → Type 0} {read : Bytes → Data → Reading A} → Reads P read →
    (least most : ℕ) → Reads (AreBetween least most P) (list_of read least most)
unfolding list_of
list {P = P} each least most place node =
    after (has_length least most place node) (λ array sized.
    record { value = λ xs e. are_between P least most _ xs sized ((each_of each place 0 array).value xs e) })
