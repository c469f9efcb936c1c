-- What the array of a tree is, as the code finds it.
use Rattle.std.proofs.Common.{◌≡◌, ◌≢◌, suc, List, [], ◌∷◌, length, Option, Some, None, refl, ap}
use Rattle.std.specs.Prelude.{option_and_then}
use Rattle.toml.specs.Data.{Items}
use Rattle.toml.specs.View.{items_view}
use Rattle.toml.specs.declared.value.Value.{Value}
use Rattle.flow_file.specs.declared.fault.TextFault.{TextFault}
use Rattle.flow_file.specs.Read.{◌>>=◌}
use Rattle.flow_file.specs.Value.{or_fault, item_count, pair_of, triple_of}

-- an array has as many values as its vector
pub item_count_is_length : (values : List Value) → item_count (items_view values) ≡ length values
item_count_is_length [] = refl
item_count_is_length (value ∷ values) = ap suc (item_count_is_length values)

-- an array of another length is no pair, and no triple
pub no_pair : (values : List Value) → length values ≢ 2 → pair_of (items_view values) ≡ None
no_pair [] other = refl
no_pair (a ∷ []) other = refl
no_pair (a ∷ b ∷ []) other = absurd (other refl)
no_pair (a ∷ b ∷ c ∷ values) other = refl

pub no_triple : (values : List Value) → length values ≢ 3 → triple_of (items_view values) ≡ None
no_triple [] other = refl
no_triple (a ∷ []) other = refl
no_triple (a ∷ b ∷ []) other = refl
no_triple (a ∷ b ∷ c ∷ []) other = absurd (other refl)
no_triple (a ∷ b ∷ c ∷ d ∷ values) other = refl

-- what is no array and an array without what is wanted are refused alike
pub one_refusal : {A : Type 0} (found : Option Items) (wanted : Items → Option A) (refusal : TextFault) →
    (or_fault found refusal >>= (λ array. or_fault (wanted array) refusal))
    ≡ or_fault (option_and_then wanted found) refusal
one_refusal (Some array) wanted refusal = refl
one_refusal None wanted refusal = refl
