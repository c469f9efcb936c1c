-- Induction along the ranks: a stream comes after those that its instant unit reads.
use Rattle.std.proofs.Common.{◌≡◌, ℕ, zero, suc, ◌≤◌, ◌<◌, max, true, List, [], ◌∷◌, length, map, fold, slice_index, slice_index_or, Contains, refl, sym, ap, ◌∙◌, subst, arith}
use Rattle.flowsheet.specs.Plant.{Plant, Origin, feed, port, unit_at, origin_of, origin_rank, rank_of, IsOrigin, IsRanked}

-- the greatest is not below what it starts from
fold_start : (a : ℕ) (xs : List ℕ) → a ≤ fold max a xs
fold_start a [] = omega arith
fold_start a (x ∷ xs) = let h : max a x ≤ fold max (max a x) xs = fold_start (max a x) xs in omega arith

-- each number of a list is at most the greatest
fold_index : (a : ℕ) (xs : List ℕ) (k : ℕ) → slice_index xs k ≤ fold max a xs
fold_index a [] k = omega arith
fold_index a (x ∷ xs) zero = let h : max a x ≤ fold max (max a x) xs = fold_start (max a x) xs in omega arith
fold_index a (x ∷ xs) (suc k) = fold_index (max a x) xs k

-- each value over a list is at most the greatest value
fold_value : (f : ℕ → ℕ) (a : ℕ) (xs : List ℕ) (k d : ℕ) → k < length xs → f (slice_index_or xs k d) ≤ fold max a (map f xs)
fold_value f a [] k d h = absurd (omega arith)
fold_value f a (x ∷ xs) zero d h = let g : max a (f x) ≤ fold max (max a (f x)) (map f xs) = fold_start (max a (f x)) (map f xs) in omega arith
fold_value f a (x ∷ xs) (suc k) d h = fold_value f (max a (f x)) xs k d (omega arith)

-- a stream comes from a feed or from a port
pub data Source (o : Origin) : Type 0 where
  from_feed : (f : ℕ) → o ≡ feed f → Source o
  from_port : (u p : ℕ) → o ≡ port u p → Source o

-- as its origin says
pub source : (o : Origin) → Source o
source (feed f) = from_feed f refl
source (port u p) = from_port u p refl

-- the unit of a port is there
pub unit_there : (plant : Plant) (s u p : ℕ) → IsRanked plant → s < length plant.streams → origin_of plant s ≡ port u p → u < length plant.units
unit_there plant s u p ranked l e = (subst (IsOrigin plant) e (ranked.origins s l)).0

-- a rank is at most the greatest
origin_top : (plant : Plant) (o : Origin) → IsRanked plant → origin_rank plant o ≤ plant.top
origin_top plant (feed f) ranked = omega arith
origin_top plant (port u p) ranked = subst (λ m. slice_index plant.ranks u ≤ m) (sym ranked.top) (fold_index 0 plant.ranks u)

-- also that of a stream
pub rank_top : (plant : Plant) (s : ℕ) → IsRanked plant → rank_of plant s ≤ plant.top
rank_top plant s ranked = origin_top plant (origin_of plant s) ranked

-- what an instant unit shows has 1 plus the greatest rank of what it reads
instant_rank : (plant : Plant) (s u p : ℕ) → IsRanked plant → u < length plant.units → origin_of plant s ≡ port u p →
    (unit_at plant u).instant ≡ true → rank_of plant s ≡ suc (fold max 0 (map (rank_of plant) (unit_at plant u).reads))
instant_rank plant s u p ranked l e i = ap (origin_rank plant) e ∙ ranked.instants u l i

-- so it is above those of all that it reads
pub read_below : (plant : Plant) (s u p q : ℕ) → IsRanked plant → u < length plant.units → origin_of plant s ≡ port u p →
    (unit_at plant u).instant ≡ true → Contains (unit_at plant u).reads q → rank_of plant q < rank_of plant s
read_below plant s u p q ranked l e i c =
    let h : rank_of plant (slice_index_or (unit_at plant u).reads c.0 q) ≤ fold max 0 (map (rank_of plant) (unit_at plant u).reads)
    = fold_value (rank_of plant) 0 (unit_at plant u).reads c.0 q c.1 in
    let g : rank_of plant (slice_index_or (unit_at plant u).reads c.0 q) ≡ rank_of plant q = ap (rank_of plant) c.2 in
    omega (arith, instant_rank plant s u p ranked l e i)

-- what holds of each stream when it holds of those of lesser rank holds of all
lesser_first : (plant : Plant) (P : ℕ → Type 0) →
    ((s : ℕ) → s < length plant.streams → ((q : ℕ) → rank_of plant q < rank_of plant s → q < length plant.streams → P q) → P s) →
    (r s : ℕ) → rank_of plant s < r → s < length plant.streams → P s
lesser_first plant P step zero s h l = absurd (omega arith)
lesser_first plant P step (suc r) s h l = step s l (λ q k m. lesser_first plant P step r q (omega arith) m)

-- what holds of feeds, and of outputs (those of an instant unit when it holds of what this reads), holds of all streams
pub by_rank : (plant : Plant) (P : ℕ → Type 0) → IsRanked plant →
    ((s f : ℕ) → s < length plant.streams → origin_of plant s ≡ feed f → P s) →
    ((s u p : ℕ) → s < length plant.streams → u < length plant.units → origin_of plant s ≡ port u p →
    ((unit_at plant u).instant ≡ true → (q : ℕ) → Contains (unit_at plant u).reads q → P q) → P s) →
    (s : ℕ) → s < length plant.streams → P s
by_rank plant P ranked fed shows s l = lesser_first plant P
    (λ s l before. elim (source (origin_of plant s)) [
      | from_feed f e ↦ fed s f l e
      | from_port u p e ↦
          let v : u < length plant.units = unit_there plant s u p ranked l e in
          shows s u p l v e (λ i q c. before q (read_below plant s u p q ranked v e i c) (ranked.reads u q v c))
    ])
    (suc (rank_of plant s)) s (omega arith) l
