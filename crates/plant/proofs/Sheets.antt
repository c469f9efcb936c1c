-- The plant of the definitions that sound parts with ranks are.
use Rattle.std.proofs.Common.{ℕ, zero, suc, List, [], ◌∷◌, map, slice_index_or, ◌<◌, length, arith, Contains, subst}
use Rattle.std.proofs.Common.{◌≡◌, false, refl, slice_index, max, ◌++◌, fold, ap, sym, ◌∙◌}
use Rattle.std.specs.List.{AllByRecursion}
use Rattle.std.proofs.lemmas.List.{length-map}
use Rattle.quant.specs.Interval.{AllBands, AllInside}
use Rattle.quant.specs.Rounding.{Floor}
use Rattle.topology.specs.Links.{AreRanks}
use Rattle.flowsheet.specs.Limited.{AreBands, KeepsLimits, IsLimited}
use Rattle.flowsheet.specs.Plant.{no_unit, origin_rank, rank_of, IsOrigin, IsRanked}
use Rattle.parts.specs.Parts.{FileParts}
use Rattle.parts.specs.Given.{given_bands}
use Rattle.parts.specs.InRange.{AreInRange}
use Rattle.plant_streams.specs.Streams.{streams_of}
use Rattle.plant_streams.specs.declared.streams.StreamSource.{StreamSource}
use Rattle.plant_streams.specs.declared.streams.StreamSource.TheVariants as source
use Rattle.plant_streams.specs.Limits.{source_at}
use Rattle.plant_units.specs.declared.units.Unit.{Unit}
use Rattle.plant_units.specs.Units.{opening_of, units_of, sheet_unit, reads_of, is_instant}
use Rattle.plant_units.proofs.AllKinds.{unit-keeps}
use Rattle.plant.specs.Sound.{AreSoundFrom, ArePartsSound}
use Rattle.plant.specs.PlantOf.{plant_of, carried_of, ranks_of, giver_in, origin_in, links_of}
use Rattle.plant.proofs.Feeds.{given-bands}
use Rattle.plant.proofs.Sources.{outputs_in, origin-at, by-origin}
use Rattle.plant.proofs.UnitLinks.{givers}

-- units open with bands
openings-band : (parts : FileParts) (i u : ℕ) (units : List Unit) → AreSoundFrom parts i units →
    AllBands (slice_index_or (map opening_of units) u [])
openings-band parts i u [] h = tt
openings-band parts i zero (x ∷ units) h = (h.0).bands
openings-band parts i (suc u) (x ∷ units) h = openings-band parts (suc i) u units h.1

pub all-bands : (parts : FileParts) (n : ℕ) → AreInRange parts → ArePartsSound parts →
    AreBands (plant_of parts) (carried_of parts) (given_bands parts) n
all-bands parts n ranges sound = record {
  states = λ u l. openings-band parts 0 u (units_of parts) sound.units;
  fed = λ t s f m l e. given-bands parts ranges t f;
}

-- inside their limits
openings-inside : (parts : FileParts) (i u : ℕ) (units : List Unit) → AreSoundFrom parts i units →
    AllInside (slice_index_or (map opening_of units) u [])
    (slice_index_or (map sheet_unit units) u no_unit).state_limits
unfolding sheet_unit
openings-inside parts i u [] h = tt
openings-inside parts i zero (x ∷ units) h = (h.0).starts
openings-inside parts i (suc u) (x ∷ units) h = openings-inside parts (suc i) u units h.1

-- and keep these
units-keep : (parts : FileParts) (i u : ℕ) (units : List Unit) → AreSoundFrom parts i units →
    KeepsLimits Floor (slice_index_or (map sheet_unit units) u no_unit)
units-keep parts i u [] h =
    record { next = λ states inputs bands others. tt; view = λ p states inputs bands others inside. tt }
units-keep parts i zero (x ∷ units) h = unit-keeps x (h.0).sound
units-keep parts i (suc u) (x ∷ units) h = units-keep parts (suc i) u units h.1

pub all-limited : (parts : FileParts) → ArePartsSound parts → IsLimited (plant_of parts) (carried_of parts)
unfolding plant_of
all-limited parts sound = record {
  keeps = λ u l. units-keep parts 0 u (units_of parts) sound.units;
  starts = λ u l. openings-inside parts 0 u (units_of parts) sound.units;
}

-- each shows what it gives
units-show : (parts : FileParts) (i u p : ℕ) (units : List Unit) → AreSoundFrom parts i units →
    p < length (outputs_in units u) →
    p < length (slice_index_or (map sheet_unit units) u no_unit).view
unfolding sheet_unit
units-show parts i u p [] h l = absurd (omega arith)
units-show parts i zero p (x ∷ units) h l = omega (arith, (h.0).counted)
units-show parts i (suc u) p (x ∷ units) h l = units-show parts (suc i) u p units h.1 l

-- and reads streams that are there
read-there : (n s : ℕ) (reads : List ℕ) → AllByRecursion (λ s. s < n) reads → Contains reads s → s < n
read-there n s [] h c = absurd (omega (arith, c.1))
read-there n s (r ∷ reads) h (zero, l, e) = subst (λ w. w < n) e h.0
read-there n s (r ∷ reads) h (suc k, l, e) = read-there n s reads h.1 (k, omega arith, e)

units-read : (parts : FileParts) (i u s : ℕ) (units : List Unit) → AreSoundFrom parts i units →
    Contains (slice_index_or (map sheet_unit units) u no_unit).reads s → s < length (streams_of parts)
unfolding sheet_unit
units-read parts i u s [] h c = absurd (omega (arith, c.1))
units-read parts i zero s (x ∷ units) h c = read-there (length (streams_of parts)) s (reads_of x) (h.0).reads c
units-read parts i (suc u) s (x ∷ units) h c = units-read parts (suc i) u s units h.1 c

-- a unit acts at once as its links say, and reads the units that they name
instant-alike : (units : List Unit) (u : ℕ) →
    slice_index_or (map is_instant units) u false ≡ (slice_index_or (map sheet_unit units) u no_unit).instant
unfolding sheet_unit
instant-alike [] u = refl
instant-alike (x ∷ units) zero = refl
instant-alike (x ∷ units) (suc u) = instant-alike units u

givers-alike : (parts : FileParts) (units : List Unit) (u : ℕ) →
    slice_index_or (map (λ x. givers parts (reads_of x)) units) u []
    ≡ givers parts (slice_index_or (map sheet_unit units) u no_unit).reads
unfolding sheet_unit
givers-alike parts [] u = refl
givers-alike parts (x ∷ units) zero = refl
givers-alike parts (x ∷ units) (suc u) = givers-alike parts units u

-- the greatest rank among the units that give streams is the greatest among the streams
abbrev rank_at : FileParts → ℕ → ℕ
rank_at parts u = slice_index (ranks_of parts) u

greatest-behind : (parts : FileParts) (from : StreamSource) (a : ℕ) (rest : List ℕ) →
    fold max a (map (rank_at parts) (giver_in from ++ rest))
    ≡ fold max (max a (origin_rank (plant_of parts) (origin_in from))) (map (rank_at parts) rest)
unfolding plant_of
greatest-behind parts (source.Feed f) a rest =
    let e : a ≡ max a 0 = omega arith in ap (λ b. fold max b (map (rank_at parts) rest)) e
greatest-behind parts (source.Port u p) a rest = refl

greatest-given : (parts : FileParts) (a : ℕ) (reads : List ℕ) →
    fold max a (map (rank_at parts) (givers parts reads)) ≡ fold max a (map (rank_of (plant_of parts)) reads)
unfolding plant_of
greatest-given parts a [] = refl
greatest-given parts a (s ∷ reads) =
    let plant = plant_of parts in
    greatest-behind parts (source_at parts s) a (givers parts reads)
    ∙ greatest-given parts (max a (origin_rank plant (origin_in (source_at parts s)))) reads
    ∙ ap (λ from. fold max (max a (origin_rank plant from)) (map (rank_of plant) reads))
    (sym (origin-at (streams_of parts) s))

pub all-ranked : (parts : FileParts) → ArePartsSound parts → AreRanks (links_of parts) (ranks_of parts) →
    IsRanked (plant_of parts)
unfolding plant_of links_of
all-ranked parts sound ranked =
    let units : length (map sheet_unit (units_of parts)) ≡ length (units_of parts) =
    length-map (units_of parts) sheet_unit in
    let linked : length (map is_instant (units_of parts)) ≡ length (units_of parts) =
    length-map (units_of parts) is_instant in
    let streams : length (plant_of parts).streams ≡ length (streams_of parts)
    = length-map (streams_of parts) (λ stream. origin_in stream.source) in
    record {
      counted = ranked.counted ∙ linked ∙ sym units;
      reads = λ u s l c. omega (arith, units-read parts 0 u s (units_of parts) sound.units c);
      origins = λ s l. by-origin parts (IsOrigin (plant_of parts)) (λ f k. tt)
          (λ u p k m. (omega arith, units-show parts 0 u p (units_of parts) sound.units m)) s (omega arith);
      registers = λ u l e. ranked.registers u (omega arith) (instant-alike (units_of parts) u ∙ e);
      instants = λ u l e. ranked.instants u (omega arith) (instant-alike (units_of parts) u ∙ e)
          ∙ ap (λ reads. suc (fold max 0 (map (rank_at parts) reads))) (givers-alike parts (units_of parts) u)
          ∙ ap suc (greatest-given parts 0 (slice_index_or (map sheet_unit (units_of parts)) u no_unit).reads);
      top = refl;
    }
