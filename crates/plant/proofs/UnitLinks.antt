-- Units read units that are there.
use Rattle.std.proofs.Common.{ℕ, List, zero, suc, ◌<◌, length, Contains, subst, arith, [], ◌∷◌, inl, inr, map}
use Rattle.std.proofs.Common.{slice_index_or}
use Rattle.std.specs.Prelude.{flat_map}
use Rattle.std.specs.List.{AllByRecursion}
use Rattle.std.proofs.lemmas.List.Elements.{Contains-append_cases}
use Rattle.std.proofs.lemmas.List.{length-map}
use Rattle.topology.specs.Links.{AreLinks}
use Rattle.parts.specs.Parts.{FileParts}
use Rattle.parts.specs.InRange.{AreInRange}
use Rattle.plant_streams.specs.Limits.{source_at}
use Rattle.plant_streams.specs.declared.streams.StreamSource.{StreamSource}
use Rattle.plant_streams.specs.declared.streams.StreamSource.TheVariants as source
use Rattle.plant_streams.specs.Streams.{streams_of}
use Rattle.plant_units.specs.Units.{units_of, reads_of, is_instant}
use Rattle.plant_units.specs.declared.units.Unit.{Unit}
use Rattle.plant.specs.PlantOf.{giver_in, links_of}
use Rattle.plant.specs.Sound.{IsSource, AreSoundFrom}
use Rattle.plant.proofs.Sources.{length-units_of}

-- the units that give what a unit reads
abbrev pub givers : FileParts → List ℕ → List ℕ
givers parts reads = flat_map (λ s. giver_in (source_at parts s)) reads

giver-there : (parts : FileParts) (s v : ℕ) (from : StreamSource) → IsSource parts s from → Contains (giver_in from) v →
    v < length (units_of parts)
giver-there parts s v (source.Feed f) h c = absurd (omega (arith, c.1))
giver-there parts s v (source.Port u p) h (zero, l, e) = subst (λ w. w < length (units_of parts)) e h.0
giver-there parts s v (source.Port u p) h (suc k, l, e) = absurd (omega arith)

givers-there : (parts : FileParts) (reads : List ℕ) (v : ℕ) →
    ((s : ℕ) → s < length (streams_of parts) → IsSource parts s (source_at parts s)) →
    AllByRecursion (λ s. s < length (streams_of parts)) reads → Contains (givers parts reads) v →
    v < length (units_of parts)
givers-there parts [] v sources h c = absurd (omega (arith, c.1))
givers-there parts (s ∷ reads) v sources h c = elim
    (Contains-append_cases (giver_in (source_at parts s)) (givers parts reads) v c) [
      | inl a ↦ giver-there parts s v (source_at parts s) (sources s h.0) a
      | inr b ↦ givers-there parts reads v sources h.1 b
    ]

units-givers : (parts : FileParts) (i u v : ℕ) (units : List Unit) →
    ((s : ℕ) → s < length (streams_of parts) → IsSource parts s (source_at parts s)) →
    AreSoundFrom parts i units → Contains (slice_index_or (map (λ x. givers parts (reads_of x)) units) u []) v →
    v < length (units_of parts)
units-givers parts i u v [] sources h c = absurd (omega (arith, c.1))
units-givers parts i zero v (x ∷ units) sources h c = givers-there parts (reads_of x) v sources (h.0).reads c
units-givers parts i (suc u) v (x ∷ units) sources h c = units-givers parts (suc i) u v units sources h.1 c

pub units-linked : (parts : FileParts) → AreInRange parts →
    ((s : ℕ) → s < length (streams_of parts) → IsSource parts s (source_at parts s)) →
    AreSoundFrom parts 0 (units_of parts) → AreLinks (links_of parts)
unfolding links_of
units-linked parts ranges sources sound =
    let reads = length-map (units_of parts) (λ x. givers parts (reads_of x)) in
    let counted = length-map (units_of parts) is_instant in
    let many = length-units_of parts in
    let most = ranges.units.1 in
    record {
      counted = omega (arith, reads, counted);
      few = omega (arith, counted, many, most);
      there = λ u v l c. omega (arith, counted, units-givers parts 0 u v (units_of parts) sources sound c);
    }
