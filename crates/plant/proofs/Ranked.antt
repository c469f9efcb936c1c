-- The ranks of a plant's units: one for each, and the greatest of them.
use Rattle.std.proofs.Common.{◌≡◌, ◌∙◌, ℕ, suc, ◌≤◌, max, fold, List, [], ◌∷◌, length, arith}
use Rattle.std.specs.Prelude.{slice_index}
use Rattle.std.proofs.lemmas.List.{length-map}
use Rattle.flowsheet.specs.Plant as sheet
use Rattle.parts.specs.Parts.{FileParts}
use Rattle.plant_units.specs.Units.{units_of, is_instant}
use Rattle.plant.specs.PlantOf.{links_of, ranks_of, plant_of}
use Rattle.plant.specs.Sound.{IsPlant}
use Rattle.plant.specs.Steps.{greatest}
use Rattle.plant.proofs.Lookups.{units-counted}

-- as many ranks as units
pub ranks_counted : (parts : FileParts) → sheet.IsRanked (plant_of parts) →
    length (ranks_of parts) ≡ length (units_of parts)
unfolding plant_of
ranks_counted parts ranked = ranked.counted ∙ units-counted parts

pub plant_ranks_counted : (parts : FileParts) → IsPlant parts → length (ranks_of parts) ≡ length (units_of parts)
unfolding links_of
plant_ranks_counted parts plant = plant.ranked.counted ∙ length-map (units_of parts) is_instant

-- the greatest of ranks is one of them, or 0
fold-most : (a b : ℕ) (xs : List ℕ) → a ≤ b → ((u : ℕ) → slice_index xs u ≤ b) → fold max a xs ≤ b
fold-most a b [] h k = h
fold-most a b (x ∷ xs) h k = fold-most (max a x) b xs (omega (arith, k 0)) (λ u. k (suc u))

pub greatest_most : (b : ℕ) (xs : List ℕ) → ((u : ℕ) → slice_index xs u ≤ b) → greatest xs ≤ b
greatest_most b xs k = fold-most 0 b xs (omega arith) k
