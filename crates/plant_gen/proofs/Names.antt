-- The names of a generated plant, each read as its place: by its first and last letter, and the number in it.
use Rattle.std.proofs.Common.{ℕ, zero, suc, ◌+◌, ◌-◌, ◌*◌, ◌<◌, ◌≤◌, ◌≡◌, ◌==◌, ◌&&◌, List, [], ◌∷◌, codes, map}
use Rattle.std.proofs.Common.{refl, arith}
use Rattle.std.proofs.Common.{nat_lt, nat_le, slice_index, subst, if◌then◌else◌, true}
use Rattle.std.specs.Fmt.{digits}
use Rattle.plant_streams.specs.Streams.{ports_of, unit_streams, streams_of}
use Rattle.plant_checks.specs.Checks.{names_of}
use Rattle.plant_gen.specs.Generated.{mixer_name, tank_name, splitter_name, output_name, generated_parts}
use Rattle.plant_gen.proofs.Below.{passes-below}
use Rattle.plant_gen.proofs.Stages.{stages}
use Rattle.plant_gen.proofs.Coded.{AreCoded, are_coded, are-coded}

-- the number that the digits of a text write behind one that was read before
digits_in : ℕ → List ℕ → ℕ
digits_in n [] = n
digits_in n (b ∷ rest) = digits_in (if nat_le 48 b && nat_lt b 58 then 10 * n + (b - 48) else n) rest

last_of : ℕ → List ℕ → ℕ
last_of d [] = d
last_of d (b ∷ rest) = last_of b rest

-- the place of a unit among the three of a stage, and of a stream among the five; before them come the feeds
unit_place : ℕ → ℕ
unit_place letter =
    if letter == 102 then 0 else if letter == 118 then 1 else if letter == 109 then 2
    else if letter == 116 then 3 else 4

stream_place : ℕ → ℕ → ℕ
stream_place letter last =
    if letter == 115 then (if last == 116 then 5 else 6) else if last == 108 then 4 else unit_place letter

pub unit_code : List ℕ → ℕ
unit_code name = unit_place (slice_index name 0) + 3 * digits_in 0 name

pub stream_code : List ℕ → ℕ
stream_code name = stream_place (slice_index name 0) (last_of 0 name) + 5 * digits_in 0 name

-- the names of the units of stage i, and of their outputs
abbrev unit_names : ℕ → List (List ℕ)
unit_names i = mixer_name i ∷ tank_name i ∷ splitter_name i ∷ []

abbrev outputs : ℕ → List (List ℕ)
outputs i =
    output_name (mixer_name i) (codes "out") ∷ output_name (tank_name i) (codes "out")
    ∷ output_name (tank_name i) (codes "level") ∷ output_name (splitter_name i) (codes "first")
    ∷ output_name (splitter_name i) (codes "second") ∷ []

-- computed for each stage
units-tested : (i : ℕ) → i < 80 → are_coded unit_code (2 + 3 * i) (unit_names i) ≡ true
unfolding unit_code unit_place digits_in digits
units-tested i = passes-below (λ j. are_coded unit_code (2 + 3 * j) (unit_names j)) 80 i refl

outputs-tested : (i : ℕ) → i < 80 → are_coded stream_code (2 + 5 * i) (outputs i) ≡ true
unfolding stream_code stream_place last_of unit_place digits_in digits
outputs-tested i = passes-below (λ j. are_coded stream_code (2 + 5 * j) (outputs j)) 80 i refl

-- the names of the units, and those of feeds and units
units-coded : (i k : ℕ) → i + k ≤ 80 → AreCoded unit_code (2 + 3 * i) (map (λ unit. unit.name) (stages i k))
units-coded i zero h = tt
units-coded i (suc k) h =
    let rest : List (List ℕ) = map (λ unit. unit.name) (stages (i + 1) k) in
    let e : 2 + 3 * (i + 1) ≡ 3 + (2 + 3 * i) = omega arith in
    are-coded unit_code (2 + 3 * i) (unit_names i) rest (units-tested i (omega arith))
    (subst (λ (s : ℕ). AreCoded unit_code s rest) e (units-coded (i + 1) k (omega arith)))

pub names-coded : (n : ℕ) → n ≤ 80 → AreCoded unit_code 0 (names_of (generated_parts n))
unfolding generated_parts unit_code unit_place digits_in
names-coded n h = (refl, (refl, units-coded 0 n (omega arith)))

-- the names of the streams
outputs-coded : (u i k : ℕ) → i + k ≤ 80 →
    AreCoded stream_code (2 + 5 * i) (map (λ stream. stream.name) (unit_streams u (stages i k)))
unfolding ports_of
outputs-coded u i zero h = tt
outputs-coded u i (suc k) h =
    let rest : List (List ℕ) = map (λ stream. stream.name) (unit_streams (suc (suc (suc u))) (stages (i + 1) k)) in
    let e : 2 + 5 * (i + 1) ≡ 5 + (2 + 5 * i) = omega arith in
    are-coded stream_code (2 + 5 * i) (outputs i) rest (outputs-tested i (omega arith))
    (subst (λ (s : ℕ). AreCoded stream_code s rest) e (outputs-coded (suc (suc (suc u))) (i + 1) k (omega arith)))

pub streams-coded : (n : ℕ) → n ≤ 80 →
    AreCoded stream_code 0 (map (λ stream. stream.name) (streams_of (generated_parts n)))
unfolding generated_parts streams_of stream_code stream_place last_of unit_place digits_in
streams-coded n h = (refl, (refl, outputs-coded 0 0 n (omega arith)))
