-- Values in the tree that a TOML text is, each at its place: a path of keys and of indices from 0.
use Rattle.std.specs.Prelude.{◌&&◌, ◌++◌, ℕ, suc, ℤ, nat_abs, nat_le, int_le, Bool, if◌then◌else◌}
use Rattle.std.specs.Prelude.{List, [], ◌∷◌, bytes_eq, codes, decimal, Option, Some, None, Ok, Err}
use Rattle.std.specs.List.{list_any}
use Rattle.std.specs.Str.{is_utf8}
use Rattle.quant.specs.Interval.{Interval, wide}
use Rattle.parts.specs.InRange.{from_to}
use Rattle.parts.specs.declared.units.Quantities.{Quantities}
use Rattle.plant_names.specs.Name.{is_name, is_reference}
use Rattle.toml.specs.Data.{Data, Items, no_items, item, Members, no_members, member, get_member}
use Rattle.toml.specs.Data.{as_integer, as_str, as_array, as_table}
use Rattle.toml.specs.Parse.{parse_document}
use Rattle.flow_file.specs.declared.fault.TextFault.{TextFault}
use Rattle.flow_file.specs.declared.fault.TextFault.TheVariants as fault
use Rattle.flow_file.specs.declared.common_keys.Channels.{Channels}
use Rattle.flow_file.specs.Read.{Reading, ◌>>=◌}

abbrev pub Bytes : Type 0
Bytes = List ℕ

-- the value, or this refusal where there is none
abbrev pub or_fault : {A : Type 0} → Option A → TextFault → Reading A
or_fault (Some x) refusal = Ok x
or_fault None refusal = Err refusal

-- the value where the test holds, or this refusal
abbrev pub when : {A : Type 0} → Bool → A → TextFault → Reading A
when test x refusal = if test then Ok x else Err refusal

-- the tree that toml reads of the bytes
unfoldable pub tree_of : Bytes → Reading Members
tree_of bytes = if is_utf8 bytes then or_fault (parse_document bytes) fault.NotToml else Err fault.NotToml

-- the place of an element of the array at a place
abbrev pub item_place : Bytes → ℕ → Bytes
item_place place i = place ++ (codes "[" ++ (decimal i ++ codes "]"))

-- a table, and what the places of its keys begin with
pub record Section : Type 0 where
  pub prefix : Bytes
  pub members : Members

abbrev pub key_place : Section → Bytes → Bytes
key_place section key = section.prefix ++ key

-- the table at a place
unfoldable pub section_of : Bytes → Data → Reading Section
section_of place node = do
  table ← or_fault (as_table node) (fault.WrongType place)
  Ok (record { prefix = place ++ codes "."; members = table })

-- what is read of the keys of the table at a place
unfoldable pub table_of : {A : Type 0} → (Section → Reading A) → Bytes → Data → Reading A
table_of read place node = section_of place node >>= read

-- the value at a key that is required, read at its place
unfoldable pub at_key : {A : Type 0} → (Bytes → Data → Reading A) → Section → Bytes → Reading A
at_key read section key = do
  node ← or_fault (get_member key section.members) (fault.Missing (key_place section key))
  read (key_place section key) node

-- the value at a key that may be missing
abbrev pub read_some : {A : Type 0} → (Bytes → Data → Reading A) → Bytes → Option Data → Reading (Option A)
read_some read place None = Ok None
read_some read place (Some node) = read place node >>= (λ x. Ok (Some x))

unfoldable pub at_optional : {A : Type 0} → (Bytes → Data → Reading A) → Section → Bytes → Reading (Option A)
at_optional read section key = read_some read (key_place section key) (get_member key section.members)

-- the first key that is not in the list, in the order of their bytes
abbrev pub first_other : List Bytes → Members → Option Bytes
first_other known no_members = None
first_other known (member key node rest) = if list_any (bytes_eq key) known then first_other known rest else Some key

abbrev pub refuse_key : Section → Option Bytes → Reading (Unit {0})
refuse_key section None = Ok tt
refuse_key section (Some key) = Err (fault.UnknownKey (key_place section key))

-- the table has no other keys than these
unfoldable pub no_others : List Bytes → Section → Reading (Unit {0})
no_others known section = refuse_key section (first_other known section.members)

-- what is read in one way at two keys
unfoldable pub both_at : {A : Type 0} → (Bytes → Data → Reading A) → Section → Bytes → Bytes → Reading (A × A)
both_at read section first second = do
  one ← at_key read section first
  other ← at_key read section second
  Ok (one, other)

-- what is read in one way at the keys of a stream's channels
unfoldable pub channels_of : {A : Type 0} → (Section → Bytes → Reading A) → Section → Reading (Channels A)
channels_of at section = do
  flow ← at section (codes "flow")
  conc ← at section (codes "conc")
  temp ← at section (codes "temp")
  Ok (record { flow = flow; conc = conc; temp = temp })

-- what is read in one way at the keys of all quantities that have limits, of a table that has no others
unfoldable pub quantities_of : {A : Type 0} → (Section → Bytes → Reading A) → Section → Reading (Quantities A)
quantities_of at section = do
  stream ← channels_of at section
  volume ← at section (codes "volume")
  signal ← at section (codes "signal")
  others ← no_others (codes "flow" ∷ codes "conc" ∷ codes "temp" ∷ codes "volume" ∷ codes "signal" ∷ []) section
  Ok (record { flow = stream.flow; conc = stream.conc; temp = stream.temp; volume = volume; signal = signal })

-- whether a number lies in a range
abbrev pub is_in : Interval → ℤ → Bool
is_in range number = int_le range.lo number && int_le number range.hi

-- a whole number of a range
unfoldable pub number_in : Interval → Bytes → Data → Reading ℤ
number_in range place node = do
  number ← or_fault (as_integer node) (fault.WrongType place)
  when (is_in range number) number (fault.OutOfRange place)

-- a whole number from the least to the most, which are not negative
unfoldable pub count_in : ℕ → ℕ → Bytes → Data → Reading ℕ
count_in least most place node = do
  number ← number_in (from_to least most) place node
  Ok (nat_abs number)

-- the band from lo to hi, where both are wide numbers in this order
unfoldable pub band_between : Bytes → ℤ → ℤ → Reading Interval
band_between place lo hi =
    when ((int_le wide.lo lo && int_le lo hi) && int_le hi wide.hi)
    (record { lo = lo; hi = hi })
    (fault.OutOfRange place)

-- the two whole numbers of an array, and the three
abbrev pub both : {A B : Type 0} → Option A → Option B → Option (A × B)
both (Some a) (Some b) = Some (a, b)
both _ _ = None

abbrev pub pair_of : Items → Option (ℤ × ℤ)
pair_of (item a (item b no_items)) = both (as_integer a) (as_integer b)
pair_of _ = None

abbrev pub triple_of : Items → Option (ℤ × (ℤ × ℤ))
triple_of (item a (item b (item c no_items))) = both (as_integer a) (both (as_integer b) (as_integer c))
triple_of _ = None

-- a band: its two ends in an array, or one number
unfoldable pub pair_band : Bytes → Data → Reading Interval
pair_band place node = do
  array ← or_fault (as_array node) (fault.WrongType place)
  ends ← or_fault (pair_of array) (fault.WrongType place)
  band_between place ends.0 ends.1

abbrev pub number_band : Bytes → Option ℤ → Reading Interval → Reading Interval
number_band place (Some number) pair = band_between place number number
number_band place None pair = pair

unfoldable pub band_of : Bytes → Data → Reading Interval
band_of place node = number_band place (as_integer node) (pair_band place node)

-- a text
unfoldable pub text_of : Bytes → Data → Reading Bytes
text_of place node = or_fault (as_str node) (fault.WrongType place)

-- a text of one form: a name, and a reference
unfoldable pub formed_text : (Bytes → Bool) → Bytes → Data → Reading Bytes
formed_text is place node = do
  text ← text_of place node
  when (is text) text (fault.BadName place)

abbrev pub name_of : Bytes → Data → Reading Bytes
name_of = formed_text is_name

abbrev pub reference_of : Bytes → Data → Reading Bytes
reference_of = formed_text is_reference

-- what a word means, which has to be one of a list
unfoldable pub word_of : {A : Type 0} → (Bytes → Option A) → Bytes → Data → Reading A
word_of meaning place node = do
  word ← text_of place node
  or_fault (meaning word) (fault.OutOfRange place)

-- how many values an array has
abbrev pub item_count : Items → ℕ
item_count no_items = 0
item_count (item node rest) = suc (item_count rest)

-- an array of so many values, at the least and at the most: its length is judged before its values
unfoldable pub array_between : ℕ → ℕ → Bytes → Data → Reading Items
array_between least most place node = do
  array ← or_fault (as_array node) (fault.WrongType place)
  short ← when (nat_le (item_count array) most) array (fault.TooMany place)
  when (nat_le least (item_count short)) short (fault.OutOfRange place)

-- each value of an array, from the one with number i on, at its place
abbrev pub read_from : {A : Type 0} → (Bytes → Data → Reading A) → Bytes → ℕ → Items → Reading (List A)
read_from read place i no_items = Ok []
read_from read place i (item node rest) = do
  first ← read (item_place place i) node
  others ← read_from read place (suc i) rest
  Ok (first ∷ others)

unfoldable pub list_of : {A : Type 0} → (Bytes → Data → Reading A) → ℕ → ℕ → Bytes → Data → Reading (List A)
list_of read least most place node = do
  array ← array_between least most place node
  read_from read place 0 array
