-- Which units act at once, which units each reads, and the order of those that act at once.
use Rattle.std.specs.Prelude.{◌≡◌, ◌<◌, ◌^◌, ℕ, suc, max, Bool, true, false, List, [], length, fold, map, Contains}
use Rattle.std.specs.Prelude.{slice_index, slice_index_or}

-- for each unit whether it is instant, and the numbers of the units that it reads
pub record LinkLists : Type 0 where
  pub instant : List Bool
  pub reads : List (List ℕ)

abbrev pub is_instant : LinkLists → ℕ → Bool
is_instant links u = slice_index_or links.instant u false

abbrev pub reads_of : LinkLists → ℕ → List ℕ
reads_of links u = slice_index_or links.reads u []

-- both lists have one length, and each unit that is read is there
pub record AreLinks (links : LinkLists) : Type 0 where
  pub counted : length links.reads ≡ length links.instant
  pub few : length links.instant < 2 ^ 32
  pub there : (u v : ℕ) → u < length links.instant → Contains (reads_of links u) v → v < length links.instant

-- an instant unit reads an instant unit
pub record IsLink (links : LinkLists) (u v : ℕ) : Type 0 where
  pub from : is_instant links u ≡ true
  pub to : is_instant links v ≡ true
  pub reads : Contains (reads_of links u) v

-- a path from a unit to another through instant units alone: one link or more
pub data Path (links : LinkLists) : ℕ → ℕ → Type 0 where
  link : (u v : ℕ) → IsLink links u v → Path links u v
  further : (u v w : ℕ) → IsLink links u v → Path links v w → Path links u w

-- the first unit that reaches itself through instant units alone
pub record IsFirstLoop (links : LinkLists) (u : ℕ) : Type 0 where
  pub there : u < length links.instant
  pub loops : Path links u u
  pub first : (v : ℕ) → v < u → ¬ Path links v v

-- A unit that is not instant has rank 0. An instant unit has 1 plus the greatest rank among the units that it reads.
pub record AreRanks (links : LinkLists) (ranks : List ℕ) : Type 0 where
  pub counted : length ranks ≡ length links.instant
  pub registers : (u : ℕ) → u < length links.instant → is_instant links u ≡ false → slice_index ranks u ≡ 0
  pub instants : (u : ℕ) → u < length links.instant → is_instant links u ≡ true →
      slice_index ranks u ≡ suc (fold max 0 (map (λ v. slice_index ranks v) (reads_of links u)))
