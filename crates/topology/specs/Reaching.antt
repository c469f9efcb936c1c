-- Words of the proofs: a reader of the contracts needs none of them.
-- What is marked as reached, and what of it still waits.
use Rattle.std.specs.Prelude.{◌≡◌, ◌⊎◌, ◌+◌, ℕ, Bool, true, false, not, List, length, count_by, Contains}
use Rattle.std.specs.Prelude.{slice_index_or}
use Rattle.topology.specs.Links.{LinkLists, is_instant}

-- a unit is marked
abbrev pub IsMarked : List Bool → ℕ → Type 0
IsMarked reached u = slice_index_or reached u false ≡ true

-- how many units wait or are not marked
abbrev pub work : List Bool → List ℕ → ℕ
work reached waiting = length waiting + count_by not reached

-- the instant units of a list were marked, and those that were not marked before wait
pub record Reaches (links : LinkLists) (seen : List ℕ) (before after : List Bool) (waited waiting : List ℕ) : Type 0
  where
    pub counted : length after ≡ length before
    pub kept : (v : ℕ) → IsMarked before v → IsMarked after v
    pub still : (v : ℕ) → Contains waited v → Contains waiting v
    pub marked : (v : ℕ) → is_instant links v ≡ true → Contains seen v → IsMarked after v
    pub cause : (v : ℕ) → IsMarked after v → IsMarked before v ⊎
        ((is_instant links v ≡ true) × Contains seen v × Contains waiting v)
    pub right : (v : ℕ) → Contains waiting v → Contains waited v ⊎ IsMarked after v
