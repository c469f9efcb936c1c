-- The ranks of a generated plant's units: a splitter reads a tank, and a mixer reads splitters.
use Rattle.std.proofs.Common.{ℕ, zero, suc, ◌*◌, ◌<◌, ◌≤◌, ◌≡◌, ◌++◌, Bool, true, false, List, [], ◌∷◌, map, length}
use Rattle.std.proofs.Common.{refl, arith, subst, sym, ◌∙◌, ap, max, flat_map, fold, slice_index, ⊎_elim}
use Rattle.std.proofs.lemmas.Bool.{cases_lt}
use Rattle.std.proofs.lemmas.List.{get_or_past}
use Rattle.topology.specs.Links.{LinkLists, AreLinks, AreRanks, is_instant, reads_of}
use Rattle.topology.specs.Ranked.{ranks_in}
use Rattle.topology.proofs.Found.{all-found}
use Rattle.parts.specs.Parts.{FileParts}
use Rattle.plant_streams.specs.Streams.{references_of}
use Rattle.plant_streams.specs.Limits.{source_at}
use Rattle.plant_units.specs.declared.units.Unit.{Unit}
use Rattle.plant_units.specs.Units as units
use Rattle.plant_units.specs.Units.{unit_from, made_unit, units_of}
use Rattle.plant.specs.PlantOf.{links_of, ranks_of, giver_in}
use Rattle.plant_gen.specs.Generated.{mixer_of, tank_of, splitter_of, generated_parts}
use Rattle.plant_gen.proofs.Stages.{threes, length-threes, map-stages, stand-at, StandAt, by-stage}
use Rattle.plant_gen.proofs.Sources.{mixer-read, tank-read, second-read, valve-read, taken-read, taken_from}

-- the units that each unit of stage i reads
abbrev mixer_reads : ℕ → List ℕ
mixer_reads i = giver_in (taken_from i) ++ (suc (suc (3 * i)) ∷ [])

abbrev tank_reads : ℕ → List ℕ
tank_reads i = 3 * i ∷ []

abbrev splitter_reads : ℕ → List ℕ
splitter_reads i = suc (3 * i) ∷ []

abbrev givers : FileParts → Unit → List ℕ
givers parts x = flat_map (λ s. giver_in (source_at parts s)) (units.reads_of x)

mixer-givers : (n first i : ℕ) → n ≤ 80 → i < n →
    givers (generated_parts n) (unit_from (generated_parts n) first (mixer_of i)) ≡ mixer_reads i
unfolding unit_from made_unit references_of
mixer-givers n first i few h =
    let a = taken-read n i few h in
    let b = second-read n i few h in
    rw (a.number, a.source, b.number, b.source) refl

tank-givers : (n first i : ℕ) → n ≤ 80 → i < n →
    givers (generated_parts n) (unit_from (generated_parts n) first (tank_of i)) ≡ tank_reads i
unfolding unit_from made_unit references_of
tank-givers n first i few h =
    let a = mixer-read n i few h in
    let b = valve-read n in
    rw (a.number, a.source, b.number, b.source) refl

splitter-givers : (n first i : ℕ) → n ≤ 80 → i < n →
    givers (generated_parts n) (unit_from (generated_parts n) first (splitter_of i)) ≡ splitter_reads i
unfolding unit_from made_unit references_of
splitter-givers n first i few h = let a = tank-read n i few h in rw (a.number, a.source) refl

-- the links of the plant
abbrev instants : ℕ → List Bool
instants n = threes (λ i. true) (λ i. false) (λ i. true) 0 n

abbrev reads : ℕ → List (List ℕ)
reads n = threes mixer_reads tank_reads splitter_reads 0 n

abbrev links : ℕ → LinkLists
links n = record { instant = instants n; reads = reads n }

instants-are : (n : ℕ) → map units.is_instant (units_of (generated_parts n)) ≡ instants n
unfolding units_of generated_parts unit_from made_unit
instants-are n =
    map-stages (generated_parts n) units.is_instant (λ i. true) (λ i. false) (λ i. true) n (λ first i h. refl)
    (λ first i h. refl) (λ first i h. refl) 0 n (omega arith) 2

reads-are : (n : ℕ) → n ≤ 80 → map (givers (generated_parts n)) (units_of (generated_parts n)) ≡ reads n
unfolding units_of generated_parts
reads-are n few =
    map-stages (generated_parts n) (givers (generated_parts n)) mixer_reads tank_reads splitter_reads n
    (λ first i h. mixer-givers n first i few h) (λ first i h. tank-givers n first i few h)
    (λ first i h. splitter-givers n first i few h) 0 n (omega arith) 2

links-are : (n : ℕ) → n ≤ 80 → links_of (generated_parts n) ≡ links n
unfolding links_of
links-are n few = rw (instants-are n, reads-are n few) refl

-- their ranks
abbrev pub ranks : ℕ → List ℕ
ranks n = threes (λ i. 2) (λ i. 0) (λ i. 1) 0 n

-- what stands at the units of stage j
instant-at : (n j : ℕ) → j < n → StandAt (instants n) false (3 * j) true false true
instant-at n j h = stand-at {A = Bool} (λ i. true) (λ i. false) (λ i. true) false n j h

reads-at : (n j : ℕ) → j < n → StandAt (reads n) [] (3 * j) (mixer_reads j) (tank_reads j) (splitter_reads j)
reads-at n j h = stand-at {A = List ℕ} mixer_reads tank_reads splitter_reads [] n j h

pub rank-at : (n j : ℕ) → j < n → StandAt (ranks n) 0 (3 * j) 2 0 1
rank-at n j h = stand-at {A = ℕ} (λ i. 2) (λ i. 0) (λ i. 1) 0 n j h

mixer-above : (n j : ℕ) → j < n → fold max 0 (map (λ u. slice_index (ranks n) u) (mixer_reads j)) ≡ 1
mixer-above n zero h = rw (rank-at n 0 h).splitter refl
mixer-above n (suc j) h = rw ((rank-at n j (omega arith)).splitter, (rank-at n (suc j) h).splitter) refl

-- an instant unit has the rank that it is to have, and so has another
abbrev IsRight : ℕ → ℕ → Type 0
IsRight n u =
    (is_instant (links n) u ≡ false → slice_index (ranks n) u ≡ 0)
    × (is_instant (links n) u ≡ true →
    slice_index (ranks n) u ≡ suc (fold max 0 (map (λ v. slice_index (ranks n) v) (reads_of (links n) u))))

mixer-right : (n j : ℕ) → j < n → IsRight n (3 * j)
mixer-right n j h =
    let a = instant-at n j h in
    let b = rank-at n j h in
    let c = reads-at n j h in
    rw (a.mixer, b.mixer, c.mixer) (λ e. absurd cc, λ e. ap suc (sym (mixer-above n j h)))

tank-right : (n j : ℕ) → j < n → IsRight n (suc (3 * j))
tank-right n j h =
    let a = instant-at n j h in
    let b = rank-at n j h in
    rw (a.tank, b.tank) (λ e. refl, λ e. absurd cc)

splitter-right : (n j : ℕ) → j < n → IsRight n (suc (suc (3 * j)))
splitter-right n j h =
    let a = instant-at n j h in
    let b = rank-at n j h in
    let c = reads-at n j h in
    rw (a.splitter, b.splitter, c.splitter, b.tank) (λ e. absurd cc, λ e. refl)

all-right : (n u : ℕ) → u < 3 * n → IsRight n u
all-right n u h = by-stage (IsRight n) n (mixer-right n) (tank-right n) (splitter-right n) u h

ranked : (n : ℕ) → AreRanks (links n) (ranks n)
ranked n =
    let counted : length (instants n) ≡ 3 * n = length-threes {A = Bool} (λ i. true) (λ i. false) (λ i. true) 0 n in
    record {
      counted = length-threes {A = ℕ} (λ i. 2) (λ i. 0) (λ i. 1) 0 n ∙ sym counted;
      registers = λ u l e. (all-right n u (omega arith)).0 e;
      instants = λ u l e. (all-right n u (omega arith)).1 e;
    }

pub few-ranks : (n u : ℕ) → slice_index (ranks n) u ≤ 2
few-ranks n u = ⊎_elim
    (λ l.
    by-stage (λ v. slice_index (ranks n) v ≤ 2) n
    (λ j h. omega (arith, (rank-at n j h).mixer))
    (λ j h. omega (arith, (rank-at n j h).tank))
    (λ j h. omega (arith, (rank-at n j h).splitter)) u l)
    (λ l.
    let counted : length (ranks n) ≡ 3 * n = length-threes {A = ℕ} (λ i. 2) (λ i. 0) (λ i. 1) 0 n in
    let past : length (ranks n) ≤ u = omega arith in
    omega (arith, get_or_past (ranks n) u 0 past))
    (cases_lt u (3 * n))

-- they are those of the plant
found : (n : ℕ) → 1 ≤ n → AreLinks (links n) → ranks n ≡ ranks_in (links n)
found n some there =
    let counted : length (instants n) ≡ 3 * n = length-threes {A = Bool} (λ i. true) (λ i. false) (λ i. true) 0 n in
    all-found (links n) (ranks n) there (ranked n) (λ u. omega (arith, few-ranks n u))

pub ranks-are : (n : ℕ) → 1 ≤ n → n ≤ 80 → AreLinks (links_of (generated_parts n)) →
    ranks_of (generated_parts n) ≡ ranks n
ranks-are n some few there =
    ap ranks_in (links-are n few) ∙ sym (found n some (subst AreLinks (links-are n few) there))

pub plant-ranked : (n : ℕ) → 1 ≤ n → n ≤ 80 → AreLinks (links_of (generated_parts n)) →
    AreRanks (links_of (generated_parts n)) (ranks_of (generated_parts n))
plant-ranked n some few there =
    let e : ranks_of (generated_parts n) ≡ ranks n = ranks-are n some few there in
    subst (AreRanks (links_of (generated_parts n))) (sym e)
    (subst (λ (l : LinkLists). AreRanks l (ranks n)) (sym (links-are n few)) (ranked n))
