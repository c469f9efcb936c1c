-- The reading of the values of an array one after the other, as a loop does.
use Rattle.std.proofs.Common.{◌≡◌, ℕ, ◌+◌, ◌≤◌, ◌<◌, List, [], ◌∷◌, ◌++◌, length, drop, get_or, Ok, Err}
use Rattle.std.proofs.Common.{refl, sym, ap, ◌∙◌, append_assoc, add-one}
use Rattle.std.specs.List.{AllByRecursion}
use Rattle.std.proofs.lemmas.List.{append-nil, at_drop_all}
use Rattle.toml.specs.Data.{Data}
use Rattle.toml.specs.View.{view, items_view}
use Rattle.toml.specs.declared.value.Value.{Value}
use Rattle.toml.proofs.Views.{items_view-drop}
use Rattle.flow_file.specs.declared.fault.Unread.{Unread}
use Rattle.flow_file.specs.declared.fault.Unread.TheVariants as unread
use Rattle.flow_file.specs.Read.{Reading, ◌>>=◌, Fails}
use Rattle.flow_file.specs.Value.{Bytes, item_place, read_from}

-- what was read before, and what is still read
abbrev pub with_front : {A : Type 0} → List A → Reading (List A) → Reading (List A)
with_front front reading = reading >>= (λ others. Ok (front ++ others))

regroup : {A : Type 0} (front : List A) (x : A) (reading : Reading (List A))
    → with_front front (reading >>= (λ others. Ok (x ∷ others))) ≡ with_front (front ++ x ∷ []) reading
regroup front x (Ok others) = ap Ok (simp append_assoc)
regroup front x (Err fault) = refl

-- the reading from the value with number i on
abbrev pub from_item : {A : Type 0} → (Bytes → Data → Reading A) → Bytes → ℕ → List Value → Reading (List A)
from_item read place i values = read_from read place i (items_view (drop i values))

-- what is read of a value, and then what is read of the rest
abbrev before : {A : Type 0} → Reading A → Reading (List A) → Reading (List A)
before first rest = first >>= (λ x. rest >>= (λ others. Ok (x ∷ others)))

at_item : {A : Type 0} (read : Bytes → Data → Reading A) (place : Bytes) (values : List Value) (i : ℕ) (node : Value)
    → i < length values → node ≡ get_or values i node
    → from_item read place i values
    ≡ before (read (item_place place i) (view node)) (from_item read place (i + 1) values)
at_item read place values i node within found =
    rw (items_view-drop values i node within, ← found, ← add-one i) refl

pub more : {A : Type 0} (read : Bytes → Data → Reading A) (place : Bytes) (values : List Value) (i : ℕ) (node : Value)
    (front : List A) (x : A) (total : Reading (List A))
    → i < length values → node ≡ get_or values i node → read (item_place place i) (view node) ≡ Ok x
    → with_front front (from_item read place i values) ≡ total
    → with_front (front ++ x ∷ []) (from_item read place (i + 1) values) ≡ total
more read place values i node front x total within found here so_far =
    let rest = from_item read place (i + 1) values in
    let next : from_item read place i values ≡ before (Ok x) rest =
    at_item read place values i node within found ∙ rw here refl in
    sym (ap (with_front front) next ∙ regroup front x rest) ∙ so_far

pub ends : {A : Type 0} (read : Bytes → Data → Reading A) (place : Bytes) (values : List Value) (i : ℕ) (node : Value)
    (front : List A) (end : Unread) (total : Reading (List A))
    → i < length values → node ≡ get_or values i node → Fails end (read (item_place place i) (view node))
    → with_front front (from_item read place i values) ≡ total → Fails end total
ends read place values i node front unread.NoMemory total within found here so_far = tt
ends read place values i node front (unread.Fault fault) total within found here so_far =
    let next : from_item read place i values ≡ Err fault = at_item read place values i node within found
    ∙ rw here refl in
    sym so_far ∙ ap (with_front front) next

pub done : {A : Type 0} (read : Bytes → Data → Reading A) (place : Bytes) (values : List Value) (i : ℕ)
    (front : List A) (total : Reading (List A))
    → length values ≤ i → with_front front (from_item read place i values) ≡ total → total ≡ Ok front
done read place values i front total past so_far =
    let rest : from_item read place i values ≡ Ok [] =
    at_drop_all (λ (vs : List Value). read_from read place i (items_view vs)) values i past in
    sym so_far ∙ (ap (with_front front) rest ∙ ap Ok (append-nil front))

-- one more at the end
pub push : {A : Type 0} (P : A → Type 0) (xs : List A) (x : A) → AllByRecursion P xs → P x →
    AllByRecursion P (xs ++ x ∷ [])
push P [] x before here = (here, tt)
push P (y ∷ xs) x before here = (before.0, push P xs x before.1 here)
