-- What a reading gives, where it gives a value.
use Rattle.std.proofs.Common.{◌≡◌, Bool, true, false, Option, Some, None, Ok, Err, refl, subst}
use Rattle.std.specs.Prelude.{IfSome, unwrap_or}
use Rattle.toml.specs.Data.{Data, get_member}
use Rattle.flow_file.specs.declared.fault.TextFault.{TextFault}
use Rattle.flow_file.specs.declared.fault.TextFault.TheVariants as fault
use Rattle.flow_file.specs.Read.{Reading, ◌>>=◌}
use Rattle.flow_file.specs.Value.{Bytes, or_fault, when, Section, section_of, table_of, key_place, at_key, read_some}
use Rattle.flow_file.specs.Value.{at_optional}

-- where the reading gives a value, the value meets P
pub record Yields {A : Type 0} (P : A → Type 0) (reading : Reading A) : Type 0 where
  pub value : (x : A) → reading ≡ Ok x → P x

-- what is read at any place meets P
abbrev pub Reads : {A : Type 0} → (A → Type 0) → (Bytes → Data → Reading A) → Type 0
Reads P read = (place : Bytes) (node : Data) → Yields P (read place node)

-- a value that meets P; and a refusal, which gives no value
pub given : {A : Type 0} {P : A → Type 0} {x : A} → P x → Yields P (Ok x)
given {P = P} {x = x} here = record { value = λ y e. let same : x ≡ y = cc in subst P same here }

pub refused : {A : Type 0} {P : A → Type 0} {refusal : TextFault} → Yields P (Err refusal)
refused = record { value = λ y e. absurd cc }

-- a reading of which nothing has to be known
pub anything : {A : Type 0} (reading : Reading A) → Yields (λ _. Unit {0}) reading
anything reading = record { value = λ _ _. tt }

-- a reading, and then what is read with its value
pub after : {A B : Type 0} {P : A → Type 0} {Q : B → Type 0} {reading : Reading A} {next : A → Reading B} →
    Yields P reading → ((x : A) → P x → Yields Q (next x)) → Yields Q (reading >>= next)
after {reading = Ok x} first rest = rest x (first.value x refl)
after {reading = Err refusal} first rest = refused

-- a value that is given where it passes a test
pub tested : {A : Type 0} {P : A → Type 0} (test : Bool) (x : A) (refusal : TextFault) →
    (test ≡ true → P x) → Yields P (when test x refusal)
tested true x refusal passes = given (passes refl)
tested false x refusal passes = refused

-- the keys of the table at a place
pub table : {A : Type 0} {P : A → Type 0} {read : Section → Reading A} →
    ((section : Section) → Yields P (read section)) → Reads P (table_of read)
unfolding table_of
table keys place node = after (anything (section_of place node)) (λ section _. keys section)

-- the value at a key that is required
pub required : {A : Type 0} {P : A → Type 0} {read : Bytes → Data → Reading A} → Reads P read →
    (section : Section) (key : Bytes) → Yields P (at_key read section key)
unfolding at_key
required each section key =
    after (anything (or_fault (get_member key section.members) (fault.Missing (key_place section key)))) (λ node _.
    each (key_place section key) node)

-- the value at a key that may be missing
some_of : {A : Type 0} {P : A → Type 0} {read : Bytes → Data → Reading A} → Reads P read →
    (place : Bytes) (found : Option Data) → Yields (λ x. IfSome x P) (read_some read place found)
some_of each place None = given tt
some_of each place (Some node) = after (each place node) (λ x x_is. given x_is)

pub optional : {A : Type 0} {P : A → Type 0} {read : Bytes → Data → Reading A} → Reads P read →
    (section : Section) (key : Bytes) → Yields (λ x. IfSome x P) (at_optional read section key)
unfolding at_optional
optional each section key = some_of each _ _

-- a value or what stands for it
pub or_else : {A : Type 0} (P : A → Type 0) (found : Option A) (x : A) → IfSome found P → P x → P (unwrap_or found x)
or_else P (Some y) x here other = here
or_else P None x here other = other
