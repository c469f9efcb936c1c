-- Words of the proofs: a reader of the contracts needs none of them.
-- Ranks on their way up from 0.
use Rattle.std.specs.Prelude.{◌≡◌, ◌≤◌, ℕ, zero, suc, max, true, false, List, length, fold, map, slice_index}
use Rattle.topology.specs.Links.{LinkLists, IsLink, Path, is_instant, reads_of}

-- the greatest rank among units, or 0 where there are none
abbrev pub greatest : List ℕ → List ℕ → ℕ
greatest ranks units = fold max 0 (map (λ v. slice_index ranks v) units)

-- some unit reaches itself through instant units alone
abbrev pub HasLoop : LinkLists → Type 0
HasLoop links = (u : ℕ) × Path links u u

-- so many links one after another, from an instant unit
abbrev pub Chain : LinkLists → ℕ → ℕ → Type 0
Chain links zero u = is_instant links u ≡ true
Chain links (suc k) u = (v : ℕ) × IsLink links u v × Chain links k v

-- a unit has the rank that it is to have
pub record IsRankAt (links : LinkLists) (ranks : List ℕ) (u : ℕ) : Type 0 where
  pub register : is_instant links u ≡ false → slice_index ranks u ≡ 0
  pub at_once : is_instant links u ≡ true → slice_index ranks u ≡ suc (greatest ranks (reads_of links u))

-- each rank is at most what it is to be, and stands on a chain of links
pub record AreRising (links : LinkLists) (ranks : List ℕ) : Type 0 where
  pub counted : length ranks ≡ length links.instant
  pub few : (u : ℕ) → slice_index ranks u ≤ length links.instant
  pub below : (u : ℕ) → is_instant links u ≡ true → slice_index ranks u ≤ suc (greatest ranks (reads_of links u))
  pub chains : (u k : ℕ) → slice_index ranks u ≡ suc k → Chain links k u
