-- Checks never answer a loop of instant units, nor a rank that is too great.
use Rattle.std.proofs.Common.{◌≡◌, Err, subst, ℕ, List, length, refl, ◌∙◌, ◌≤◌, slice_index}
use Rattle.std.proofs.Common.{All, inl, inr, arith, Ok, ◌<◌}
use Rattle.std.proofs.lemmas.List.{length-map, get_or_past}
use Rattle.std.proofs.lemmas.Bool.{cases_lt}
use Rattle.std.specs.Prelude.{Result, IfOk}
use Rattle.topology.specs.Links.{LinkLists, AreLinks, AreRanks, IsFirstLoop}
use Rattle.topology.specs.Ranked.{ranks_in}
use Rattle.parts.specs.Parts.{FileParts}
use Rattle.plant_streams.specs.Streams.{streams_of}
use Rattle.plant_streams.specs.declared.streams.Stream.{Stream}
use Rattle.plant_checks.specs.declared.fault.PlantFault.{PlantFault}
use Rattle.plant_checks.specs.declared.fault.PlantFault.TheVariants as fault
use Rattle.plant_checks.specs.Checks.{checked, Fails}
use Rattle.plant_checks.proofs.Refusals.{IsOfChecks, IsCheck, all_checks}
use Rattle.plant_checks.specs.declared.fault.Unbuilt.{Unbuilt}
use Rattle.plant_checks.specs.declared.fault.Unbuilt.TheVariants as unbuilt
use Rattle.plant_units.specs.Units.{is_instant, units_of}
use Rattle.plant_units.specs.declared.units.Unit.{Unit}
use Rattle.plant.proofs.Sources.{length-units_of}
use Rattle.plant.specs.Verdict.{IsVerdict, Builds, unit_name}
use Rattle.plant.specs.PlantOf.{most_rank}
use Rattle.plant.specs.PlantOf.{links_of, ranks_of}
use Rattle.plant.specs.Seen.{links_seen, IsFirstAbove}

-- what the checks refuse is the verdict
verdict : (parts : FileParts) (refusal : PlantFault) → IsOfChecks refusal → checked parts ≡ Err refusal →
    IsVerdict parts (Err refusal)
verdict parts (fault.Twice name) h e = e
verdict parts (fault.NoSource place) h e = e
verdict parts (fault.WrongPort place) h e = e
verdict parts (fault.BadLimits place) h e = e
verdict parts (fault.StartOutside place) h e = e
verdict parts (fault.FeedPieces place) h e = e
verdict parts (fault.FeedOutside place) h e = e
verdict parts (fault.TableFalls place) h e = e
verdict parts (fault.ColumnTooFast name) h e = e
verdict parts (fault.InstantLoop name) h e = absurd h
verdict parts (fault.TooDeep name) h e = absurd h

pub refused : (X : Type 0) (end : Unbuilt) (parts : FileParts) → Fails end (checked parts) →
    Builds {X = X} (Err end) parts
refused X (unbuilt.Fault refusal) parts e = verdict parts refusal (subst IsCheck e (all_checks parts)) e
refused X unbuilt.NoMemory parts e = tt

-- there are as many units as parts of units
pub units_counted : (parts : FileParts) → length (links_of parts).instant ≡ length parts.units
unfolding links_of
units_counted parts = length-map (units_of parts) is_instant ∙ length-units_of parts

-- the links of the streams and the units that are made are those of the parts
pub links_are : (parts : FileParts) (links : LinkLists) (list : List Stream) (made : List Unit) →
    links ≡ links_seen list made → list ≡ streams_of parts → made ≡ units_of parts → links ≡ links_of parts
unfolding links_of
links_are parts links list made h e f = h ∙ rw (e, f) refl

-- ranks of which none is above a number
pub few_all : (n : ℕ) (ranks : List ℕ) → All (λ rank. rank ≤ n) ranks → (u : ℕ) → slice_index ranks u ≤ n
few_all n ranks h u = elim (cases_lt u (length ranks)) [
  | inl l ↦ h u 0 l
  | inr l ↦ let z : slice_index ranks u ≡ 0 = get_or_past ranks u 0 l in omega (arith, z)
]

-- ranks that are found, where some are
pub are_found : (T E : Type 0) (items : T → List ℕ) (r : Result T E) (links : LinkLists) →
    ((links : LinkLists) (ranks : List ℕ) → AreLinks links → AreRanks links ranks →
    ((u : ℕ) → slice_index ranks u ≤ length links.instant) → ranks ≡ ranks_in links) →
    AreLinks links → IfOk r (λ x. AreRanks links (items x)) →
    IfOk r (λ x. All (λ rank. rank ≤ length links.instant) (items x)) → IfOk r (λ x. items x ≡ ranks_in links)
are_found T E items (Ok x) links law h ranked few =
    law links (items x) h ranked (few_all (length links.instant) (items x) few)
are_found T E items (Err e) links law h ranked few = tt

-- the verdict on units that reach themselves, and on ranks
pub loops : (parts : FileParts) (u : ℕ) (name : List ℕ) → checked parts ≡ Ok tt → IsFirstLoop (links_of parts) u →
    name ≡ unit_name parts u →
    IsVerdict parts (Err (fault.InstantLoop name))
loops parts u name p first e = (p, (u, first, e))

pub loop_there : (parts : FileParts) (u : ℕ) → IsFirstLoop (links_of parts) u → u < length parts.units
loop_there parts u first = subst (λ (n : ℕ). u < n) (units_counted parts) first.there

pub above_there : (parts : FileParts) (u : ℕ) (ranks : List ℕ) → AreRanks (links_of parts) ranks →
    IsFirstAbove most_rank ranks u → u < length parts.units
above_there parts u ranks ranked first = subst (λ (n : ℕ). u < n) (ranked.counted ∙ units_counted parts) first.there

pub deep : (parts : FileParts) (u : ℕ) (ranks : List ℕ) (name : List ℕ) → checked parts ≡ Ok tt →
    AreRanks (links_of parts) ranks →
    ranks ≡ ranks_of parts → IsFirstAbove most_rank ranks u → name ≡ unit_name parts u →
    IsVerdict parts (Err (fault.TooDeep name))
deep parts u ranks name p ranked same first e = (
  p,
  subst (AreRanks (links_of parts)) same ranked,
  (
    u,
    record {
      there = above_there parts u ranks ranked first;
      deep = subst (λ (list : List ℕ). most_rank < slice_index list u) same first.above;
      first = λ v l. subst (λ (list : List ℕ). slice_index list v ≤ most_rank) same (first.first v l);
    },
    e,
  ),
)

pub stands : (parts : FileParts) (ranks : List ℕ) → checked parts ≡ Ok tt → AreRanks (links_of parts) ranks →
    ranks ≡ ranks_of parts → ((u : ℕ) → slice_index ranks u ≤ most_rank) → IsVerdict parts (Ok tt)
stands parts ranks p ranked same few = (
  p,
  subst (AreRanks (links_of parts)) same ranked,
  λ u. subst (λ (list : List ℕ). slice_index list u ≤ most_rank) same (few u),
)
