-- A generated plant is a plant: nothing refuses it.
use Rattle.std.proofs.Common.{ℕ, suc, ◌+◌, ◌*◌, ◌<◌, ◌≤◌, ◌≡◌, Ok, Err, arith, subst, sym, length, slice_index, List}
use Rattle.std.proofs.Common.{add-one}
use Rattle.topology.specs.Links.{AreLinks}
use Rattle.plant_checks.specs.declared.fault.PlantFault.{PlantFault}
use Rattle.plant.specs.PlantOf.{links_of, ranks_of, most_rank}
use Rattle.plant.specs.Sound.{IsPlant}
use Rattle.plant.specs.Verdict.{IsVerdict}
use Rattle.plant.proofs.PlantLaws.{parts-sound, verdict-unique}
use Rattle.plant_gen.specs.Generated.{generated_parts}
use Rattle.plant_gen.proofs.Stages.{StandAt, units-counted}
use Rattle.plant_gen.proofs.Ranges.{in_range}
use Rattle.plant_gen.proofs.Passing.{passes}
use Rattle.plant_gen.proofs.Ranking.{few-ranks, rank-at, ranks-are, plant-ranked}

linked : (n : ℕ) → 1 ≤ n → n ≤ 80 → AreLinks (links_of (generated_parts n))
linked n some few = (parts-sound (generated_parts n) (in_range n some few) (passes n few)).links

shallow : (n u : ℕ) → 1 ≤ n → n ≤ 80 → slice_index (ranks_of (generated_parts n)) u ≤ most_rank
shallow n u some few = rw (ranks-are n some few (linked n some few)) (omega (arith, few-ranks n u))

pub is-plant : (n : ℕ) → 1 ≤ n → n ≤ 80 → IsPlant (generated_parts n)
is-plant n some few = record {
  ranges = in_range n some few;
  passes = passes n few;
  ranked = plant-ranked n some few (linked n some few);
  shallow = λ u. shallow n u some few;
}

pub not-refused : (n : ℕ) (refusal : PlantFault) → 1 ≤ n → n ≤ 80 → ¬ IsVerdict (generated_parts n) (Err refusal)
not-refused n refusal some few judged =
    let p = is-plant n some few in
    let e : Err refusal ≡ Ok tt =
    verdict-unique (generated_parts n) (Err refusal) (Ok tt) judged (p.passes, p.ranked, p.shallow) in
    cc

pub plant_units-counted : (n : ℕ) → length (generated_parts n).units ≡ 3 * n
unfolding generated_parts
plant_units-counted n = units-counted 0 n

-- the ranks of each stage
stage-ranks : (n i : ℕ) → n ≤ 80 → i < n → StandAt (ranks_of (generated_parts n)) 0 (3 * i) 2 0 1
stage-ranks n i few h =
    let some : 1 ≤ n = omega arith in
    subst (λ (list : List ℕ). StandAt list 0 (3 * i) 2 0 1) (sym (ranks-are n some few (linked n some few)))
    (rank-at n i h)

pub mixer-rank : (n i : ℕ) → n ≤ 80 → i < n → slice_index (ranks_of (generated_parts n)) (3 * i) ≡ 2
mixer-rank n i few h = (stage-ranks n i few h).mixer

pub tank-rank : (n i : ℕ) → n ≤ 80 → i < n → slice_index (ranks_of (generated_parts n)) (3 * i + 1) ≡ 0
tank-rank n i few h = rw add-one (stage-ranks n i few h).tank

pub splitter-rank : (n i : ℕ) → n ≤ 80 → i < n → slice_index (ranks_of (generated_parts n)) (3 * i + 2) ≡ 1
splitter-rank n i few h =
    let e : 3 * i + 2 ≡ suc (suc (3 * i)) = omega arith in rw e (stage-ranks n i few h).splitter
