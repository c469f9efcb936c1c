-- The rows that named versions give.
use Rattle.std.proofs.Common.{ℕ, suc, ◌-◌, ◌<◌, ◌≤◌, List, [], ◌∷◌, length, arith, refl, Contains}
use Rattle.std.specs.Prelude.{flat_map}
use Rattle.quant.specs.Interval.{Interval}
use Rattle.flowsheet.specs.Reading.{Reader}
use Rattle.flowsheet.proofs.Readings.{IsKept}
use Rattle.relaxation.specs.Tube.{at}
use Rattle.relaxation.specs.Window.{row_of}
use Rattle.relaxation.specs.Core.{Versions, versions_of, version_at, named, AreThere}
use Rattle.relaxation.specs.Sweep.{AreNewest}

-- The row that named versions give at a tick is related to the streams', where each version at its number is. The numbers are
-- at least those of the newest versions before.
pub row-related : {read other : Reader Interval} {R : List Interval → List Interval → Type 0} → IsKept read other R →
    (x : ℕ → List Interval) (before state : Versions) (t : ℕ) (reads numbers : List ℕ) → AreNewest before reads numbers → AreThere state reads numbers →
    ((q k : ℕ) → Contains reads q → length (versions_of before q) - 1 ≤ k → k < length (versions_of state q) → R (x q) (at (version_at state q k) t)) →
    R (flat_map x reads) (row_of (named state reads numbers) t)
row-related related x before state t [] [] new there h = related.none
row-related related x before state t [] (k ∷ numbers) new there h = absurd there
row-related related x before state t (s ∷ reads) [] new there h = absurd there
row-related related x before state t (s ∷ reads) (k ∷ numbers) new there h = related.append _ _ _ _
    (h s k (0, omega arith, refl) new.0 there.0)
    (row-related related x before state t reads numbers new.1 there.1 (λ q i c. h q i (suc c.0, omega arith, c.2)))

-- any numbers are at least those of no versions
pub newest_none : (reads numbers : List ℕ) → AreNewest [] reads numbers
newest_none [] numbers = tt
newest_none (s ∷ reads) [] = tt
newest_none (s ∷ reads) (k ∷ numbers) = (omega arith, newest_none reads numbers)
