-- There is a verdict on parts.
use Rattle.std.proofs.Common.{◌<◌, ℕ, List, slice_index, ◌⊎◌, inl, inr, arith, ◌≤◌, length, ◌≡◌, Ok, Err, refl}
use Rattle.std.proofs.lemmas.Bool.{cases_lt}
use Rattle.std.proofs.lemmas.List.{get_or_past}
use Rattle.topology.proofs.Choices.{IsFirst, none_or_first}
use Rattle.topology.proofs.Found.{ranks-or-first_loop}
use Rattle.parts.specs.Parts.{FileParts}
use Rattle.plant_checks.specs.declared.fault.PlantFault.TheVariants as fault
use Rattle.plant_checks.specs.Checks.{Checked, checked}
use Rattle.plant_checks.specs.declared.fault.Unbuilt.TheVariants as unbuilt
use Rattle.plant.specs.Verdict.{unit_name, AreRanked, IsVerdict}
use Rattle.plant.specs.PlantOf.{most_rank}
use Rattle.plant.specs.Seen.{IsFirstAbove}
use Rattle.plant.specs.PlantOf.{ranks_of, links_of}
use Rattle.plant.proofs.BuildVerdicts.{deep, stands, refused, loops}

-- a unit's rank is above 16
abbrev IsAbove : List ℕ → ℕ → Type 0
IsAbove ranks u = most_rank < slice_index ranks u

above-or : (ranks : List ℕ) (u : ℕ) → IsAbove ranks u ⊎ (¬ IsAbove ranks u)
above-or ranks u = elim (cases_lt most_rank (slice_index ranks u)) [ inl h ↦ inl h | inr h ↦ inr (λ k. omega arith) ]

none-above : (ranks : List ℕ) → ((u : ℕ) → u < length ranks → ¬ IsAbove ranks u) → (u : ℕ) →
    slice_index ranks u ≤ most_rank
none-above ranks none u = elim (cases_lt u (length ranks)) [
  | inl l ↦ elim (cases_lt most_rank (slice_index ranks u)) [ inl h ↦ absurd (none u l h) | inr h ↦ h ]
  | inr l ↦ omega (arith, get_or_past ranks u 0 l)
]

first-above : (ranks : List ℕ) (u : ℕ) → IsFirst (IsAbove ranks) u → IsFirstAbove most_rank ranks u
first-above ranks u one = record {
  there = elim (cases_lt u (length ranks)) [
    | inl l ↦ l
    | inr l ↦ let h : most_rank < slice_index ranks u = one.holds in absurd (omega (arith, get_or_past ranks u 0 l))
  ];
  above = one.holds;
  first = λ v l. elim (cases_lt most_rank (slice_index ranks v)) [ inl h ↦ absurd (one.first v l h) | inr h ↦ h ];
}

-- on parts that pass the checks and have ranks
of-ranks : (parts : FileParts) → checked parts ≡ Ok tt → AreRanked parts → (verdict : Checked) × IsVerdict parts verdict
of-ranks parts passes ranked =
    elim (none_or_first (IsAbove (ranks_of parts)) (above-or (ranks_of parts)) (length (ranks_of parts))) [
      | inl none ↦ (Ok tt, stands parts (ranks_of parts) passes ranked refl (none-above (ranks_of parts) none))
      | inr one ↦ (
        Err (fault.TooDeep (unit_name parts one.0)),
        deep parts one.0 (ranks_of parts) (unit_name parts one.0) passes ranked refl
            (first-above (ranks_of parts) one.0 one.1) refl,
      )
    ]

of-checks : (parts : FileParts) (answer : Checked) → checked parts ≡ answer →
    (verdict : Checked) × IsVerdict parts verdict
of-checks parts (Err refusal) e = (Err refusal, refused ℕ (unbuilt.Fault refusal) parts e)
of-checks parts (Ok tt) e = elim (ranks-or-first_loop (links_of parts)) [
  | inl ranked ↦ of-ranks parts e ranked
  | inr one ↦ (Err (fault.InstantLoop (unit_name parts one.0)), loops parts one.0 (unit_name parts one.0) e one.1 refl)
]

pub some-verdict : (parts : FileParts) → (verdict : Checked) × IsVerdict parts verdict
some-verdict parts = of-checks parts (checked parts) refl
