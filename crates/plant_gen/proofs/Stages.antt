-- Lists of stages, and of three things for each.
use Rattle.std.proofs.Common.{ℕ, zero, suc, ◌+◌, ◌*◌, ◌<◌, ◌≤◌, ◌≡◌, ◌++◌, List, [], ◌∷◌, map, length, flat_map, Ok}
use Rattle.std.proofs.Common.{arith, refl, add-one, add-zero, zero-add, subst, ap₂, slice_index_or, ⊎_elim, ◌/◌}
use Rattle.std.proofs.Common.{◌%◌}
use Rattle.std.specs.List.{range_with_len, AllByRecursion}
use Rattle.std.proofs.lemmas.Bool.{cases_lt}
use Rattle.parts.specs.Parts.{FileParts}
use Rattle.parts.specs.declared.units.UnitPart.{UnitPart}
use Rattle.plant_checks.specs.Checks.{Checked, each}
use Rattle.plant_units.specs.Units.{units_from, unit_from}
use Rattle.plant_units.specs.declared.units.Unit.{Unit}
use Rattle.plant_gen.specs.Generated.{stage_of, mixer_of, tank_of, splitter_of}

-- the units of k stages from stage i on
abbrev pub stages : ℕ → ℕ → List UnitPart
stages i k = flat_map stage_of (range_with_len i k)

-- one more stage at the end
stages-more : (i n : ℕ) → stages i (suc n) ≡ stages i n ++ stage_of (i + n)
stages-more i zero = rw add-zero refl
stages-more i (suc n) = let e : i + suc n ≡ (i + 1) + n = omega arith in rw (e, stages-more (i + 1) n) refl

pub one_more_stage : (n : ℕ) → stages 0 (n + 1) ≡ stages 0 n ++ stage_of n
one_more_stage n =
    rw add-one
    (subst (λ (m : ℕ). stages 0 (suc n) ≡ stages 0 n ++ stage_of m) (zero-add n) (stages-more 0 n))

pub units-counted : (i k : ℕ) → length (stages i k) ≡ 3 * k
units-counted i zero = refl
units-counted i (suc k) = omega (arith, units-counted (i + 1) k)

-- what holds of the units of each stage holds of all units
pub all-stages : (P : UnitPart → Type 0) (n : ℕ) → ((i : ℕ) → i < n → P (mixer_of i)) →
    ((i : ℕ) → i < n → P (tank_of i)) → ((i : ℕ) → i < n → P (splitter_of i)) → (i k : ℕ) → i + k ≤ n →
    AllByRecursion P (stages i k)
all-stages P n m t s i zero h = tt
all-stages P n m t s i (suc k) h =
    (m i (omega arith), (t i (omega arith), (s i (omega arith), all-stages P n m t s (i + 1) k (omega arith))))

-- a check that the units of each stage pass
pub each-stages : (check : ℕ → UnitPart → Checked) (n : ℕ) →
    ((u i : ℕ) → i < n → check u (mixer_of i) ≡ Ok tt) → ((u i : ℕ) → i < n → check u (tank_of i) ≡ Ok tt) →
    ((u i : ℕ) → i < n → check u (splitter_of i) ≡ Ok tt) → (u i k : ℕ) → i + k ≤ n →
    each check u (stages i k) ≡ Ok tt
each-stages check n m t s u i zero h = refl
each-stages check n m t s u i (suc k) h =
    rw (m u i (omega arith), t (suc u) i (omega arith), s (suc (suc u)) i (omega arith))
    (each-stages check n m t s (suc (suc (suc u))) (i + 1) k (omega arith))

-- three things for each of k stages from stage i on
abbrev pub threes : {A : Type 0} → (ℕ → A) → (ℕ → A) → (ℕ → A) → ℕ → ℕ → List A
threes m t s i zero = []
threes m t s i (suc k) = m i ∷ t i ∷ s i ∷ threes m t s (i + 1) k

pub length-threes : {A : Type 0} (m t s : ℕ → A) (i k : ℕ) → length (threes m t s i k) ≡ 3 * k
length-threes m t s i zero = refl
length-threes m t s i (suc k) = omega (arith, length-threes m t s (i + 1) k)

-- what a map gives of the units of each stage
pub map-stages : {X : Type 0} (parts : FileParts) (F : Unit → X) (m t s : ℕ → X) (n : ℕ) →
    ((first i : ℕ) → i < n → F (unit_from parts first (mixer_of i)) ≡ m i) →
    ((first i : ℕ) → i < n → F (unit_from parts first (tank_of i)) ≡ t i) →
    ((first i : ℕ) → i < n → F (unit_from parts first (splitter_of i)) ≡ s i) →
    (i k : ℕ) → i + k ≤ n → (first : ℕ) → map F (units_from parts first (stages i k)) ≡ threes m t s i k
map-stages parts F m t s n f g e i zero h first = refl
map-stages parts F m t s n f g e i (suc k) h first =
    ap₂ (λ x xs. x ∷ xs) (f _ i (omega arith))
    (ap₂ (λ x xs. x ∷ xs) (g _ i (omega arith))
    (ap₂ (λ x xs. x ∷ xs) (e _ i (omega arith))
    (map-stages parts F m t s n f g e (i + 1) k (omega arith) _)))

-- where the three of stage j stand
pub record StandAt {A : Type 0} (xs : List A) (d : A) (at : ℕ) (m t s : A) : Type 0 where
  pub mixer : slice_index_or xs at d ≡ m
  pub tank : slice_index_or xs (suc at) d ≡ t
  pub splitter : slice_index_or xs (suc (suc at)) d ≡ s

stand-from : {A : Type 0} (m t s : ℕ → A) (d : A) (i k j : ℕ) → j < k →
    StandAt (threes m t s i k) d (3 * j) (m (i + j)) (t (i + j)) (s (i + j))
stand-from m t s d i zero j h = absurd (omega arith)
stand-from m t s d i (suc k) zero h = rw add-zero (record { mixer = refl; tank = refl; splitter = refl })
stand-from m t s d i (suc k) (suc j) h =
    let p = stand-from m t s d (i + 1) k j (omega arith) in
    let e : 3 * suc j ≡ suc (suc (suc (3 * j))) = omega arith in
    let f : i + suc j ≡ (i + 1) + j = omega arith in
    rw (e, f) (record { mixer = p.mixer; tank = p.tank; splitter = p.splitter })

pub stand-at : {A : Type 0} (m t s : ℕ → A) (d : A) (k j : ℕ) → j < k →
    StandAt (threes m t s 0 k) d (3 * j) (m j) (t j) (s j)
stand-at m t s d k j h =
    subst (λ (e : ℕ). StandAt (threes m t s 0 k) d (3 * j) (m e) (t e) (s e)) (zero-add j) (stand-from m t s d 0 k j h)

-- each of the units stands at one of the three places of a stage
pub by-stage : (P : ℕ → Type 0) (n : ℕ) → ((j : ℕ) → j < n → P (3 * j)) → ((j : ℕ) → j < n → P (suc (3 * j))) →
    ((j : ℕ) → j < n → P (suc (suc (3 * j)))) → (u : ℕ) → u < 3 * n → P u
by-stage P n m t s u h =
    let j : ℕ = u / 3 in
    ⊎_elim
    (λ l. subst P (omega arith) (m j (omega arith)))
    (λ l.
    ⊎_elim
    (λ k. subst P (omega arith) (t j (omega arith)))
    (λ k. subst P (omega arith) (s j (omega arith)))
    (cases_lt (u % 3) 2))
    (cases_lt (u % 3) 1)
