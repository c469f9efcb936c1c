-- IsRanked is not empty: the small recycle is ranked, each fact by computation at its units and streams.
use Rattle.std.proofs.Common.{◌≡◌, ℕ, zero, suc, ◌<◌, true, false, slice_index, map, fold, max, Contains, refl, arith}
use Rattle.flowsheet.specs.Plant.{unit_at, origin_of, rank_of, IsOrigin, IsRanked}
use Rattle.flowsheet.specs.Worked.{small_recycle}

-- the streams that its units read are there
recycle-reads : (u s : ℕ) → u < 2 → Contains (unit_at small_recycle u).reads s → s < 3
recycle-reads zero s l (zero, k, e) = omega arith
recycle-reads zero s l (suc zero, k, e) = omega arith
recycle-reads zero s l (suc (suc n), k, e) = absurd (omega arith)
recycle-reads (suc zero) s l (zero, k, e) = omega arith
recycle-reads (suc zero) s l (suc n, k, e) = absurd (omega arith)
recycle-reads (suc (suc u)) s l c = absurd (omega arith)

-- and the units that its streams come from
recycle-origins : (s : ℕ) → s < 3 → IsOrigin small_recycle (origin_of small_recycle s)
recycle-origins zero l = tt
recycle-origins (suc zero) l = (omega arith, omega arith)
recycle-origins (suc (suc zero)) l = (omega arith, omega arith)
recycle-origins (suc (suc (suc s))) l = absurd (omega arith)

-- its tank has rank 0
recycle-registers : (u : ℕ) → u < 2 → (unit_at small_recycle u).instant ≡ false → slice_index small_recycle.ranks u ≡ 0
recycle-registers zero l e = search e
recycle-registers (suc zero) l e = refl
recycle-registers (suc (suc u)) l e = absurd (omega arith)

-- its mixer rank 1
recycle-instants : (u : ℕ) → u < 2 → (unit_at small_recycle u).instant ≡ true →
    slice_index small_recycle.ranks u ≡ suc (fold max 0 (map (rank_of small_recycle) (unit_at small_recycle u).reads))
recycle-instants zero l e = refl
recycle-instants (suc zero) l e = search e
recycle-instants (suc (suc u)) l e = absurd (omega arith)

-- so it is ranked
pub recycle-ranked : IsRanked small_recycle
recycle-ranked = record {
  counted = refl;
  reads = recycle-reads;
  origins = recycle-origins;
  registers = recycle-registers;
  instants = recycle-instants;
  top = refl;
}
