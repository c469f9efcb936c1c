-- What the rows of a column hold, and what its stages read.
use Rattle.std.proofs.Common.{◌≡◌, ℕ, zero, suc, ◌+◌, ◌-◌, ◌<◌, ◌≤◌, ℤ, pos, List, ◌++◌, map, length, get_or, if◌then◌else◌, refl, sym, ap, subst, ◌∙◌, arith}
use Rattle.std.proofs.lemmas.Bool.{lt-ltb, le-ltb}
use Rattle.std.proofs.lemmas.List.{length-append}
use Rattle.std.proofs.lemmas.List.FromFn.{length-map-range_with_len, fill_by_all}
use Rattle.std.proofs.lemmas.Simd.{map-map}
use Rattle.std.specs.Prelude.{slice_index_or}
use Rattle.quant.specs.Interval.{Interval, IsInside, AllHold, AllInside, wide, point}
use Rattle.quant.specs.Operation.{IsDrainable}
use Rattle.quant.specs.Term.{Term, state, gain_of}
use Rattle.quant.proofs.Calls.{held-length, inside-length}
use Rattle.column_section.specs.declared.column.Column.{Column}
use Rattle.column_section.specs.Column.{IsSound, stages_of, above, below, liquid, vapour, stage, state_limits, register_limits}
use Rattle.column_section.specs.Column.{MayTake, MayTakeBands, input_limits}
use Rattle.column_section.specs.Readings.{MayStep}
use Rattle.column_section.specs.ColumnLaws.{stage-limits}

-- how many states there are
pub limits-length : (column : Column) → length (state_limits column) ≡ column.stages + 4
limits-length column =
    let stages : List Interval = map (λ i. column.limits.conc) (stages_of column) in
    let all : length (stages ++ register_limits column) ≡ length stages + 4 =
    length-append stages (register_limits column) in
    all ∙ ap (λ n. n + 4) (length-map-range_with_len (λ i. column.limits.conc) 0 column.stages)

pub states_long : (column : Column) (xs : List ℤ) → AllHold (state_limits column) xs → length xs ≡ column.stages + 4
states_long column xs h = held-length (state_limits column) xs h ∙ limits-length column

pub bands_long : (column : Column) (xs : List Interval) → AllInside xs (state_limits column) → length xs ≡ column.stages + 4
bands_long column xs h = inside-length xs (state_limits column) h ∙ limits-length column

-- and inputs, so a step may be made from rows of numbers or of bands
pub step-numbers : (column : Column) (states ins : List ℤ) → IsSound column → AllHold (state_limits column) states →
    MayTake column ins → MayStep AllHold MayTake column states ins
step-numbers column states ins sound h t = record {
  sound = sound;
  states = h;
  inputs = t;
  count = states_long column states h;
  six = held-length input_limits ins t.held;
}

pub step-bands : (column : Column) (states ins : List Interval) → IsSound column → AllInside states (state_limits column) →
    MayTakeBands column ins → MayStep (λ As Bs. AllInside Bs As) MayTakeBands column states ins
step-bands column states ins sound h t =
    record { sound = sound; states = h; inputs = t; count = bands_long column states h; six = inside-length ins input_limits t.held }

-- each stage's conc lies where its limits may
pub state-lies : {X : Type 0} (lies : Interval → X → Type 0) →
    ((A B : Interval) (x : X) → lies A x → IsInside A B → lies B x) → (column : Column) (i : ℕ) (x : X) →
    IsSound column → i < column.stages → lies (slice_index_or (state_limits column) i (point (pos 0))) x → lies wide x
state-lies lies wider column i x sound l h =
    wider column.limits.conc wide x (subst (λ (A : Interval). lies A x) (stage-limits column i l) h) sound.limits.conc.1

-- what comes to a stage from above and from below
pub above-first : (i : ℕ) → i ≡ 0 → above i ≡ liquid.conc
above-first zero e = refl
above-first (suc i) e = absurd (omega arith)

pub above-later : (i : ℕ) → 1 ≤ i → above i ≡ state (i - 1)
above-later zero h = absurd (omega arith)
above-later (suc i) h = ap state (omega arith)

pub below-middle : (column : Column) (i : ℕ) → i + 1 < column.stages →
    below column i ≡ gain_of column.slope (state (i + 1))
below-middle column i h = ap (λ b. if b then gain_of column.slope (state (i + 1)) else vapour.conc)
    (lt-ltb (i + 1) column.stages h)

pub below-last : (column : Column) (i : ℕ) → column.stages ≤ i + 1 → below column i ≡ vapour.conc
below-last column i h = ap (λ b. if b then gain_of column.slope (state (i + 1)) else vapour.conc)
    (le-ltb (i + 1) column.stages h)

-- stages that are filled one by one are all the stages
pub filled-stages : {X : Type 0} (column : Column) (g : Term → X) (xs : List X) (d : X) → length xs ≡ column.stages →
    ((k : ℕ) → k < column.stages → get_or xs k d ≡ g (stage column k)) →
    xs ≡ map g (map (stage column) (stages_of column))
filled-stages column g xs d n h = fill_by_all (λ k. g (stage column k)) xs column.stages d n h ∙
    sym (map-map g (stage column) (stages_of column))

-- what a call with bands gives, from what its arguments are
pub hulled5 : (f : ℤ → ℤ → Interval → Interval → Interval → Interval → Interval → Interval) (h s : ℤ)
    (U V W X Y R : Interval) (k t : ℤ) (A B C D E : Interval) →
    R ≡ f h s U V W X Y → h ≡ k → s ≡ t → U ≡ A → V ≡ B → W ≡ C → X ≡ D → Y ≡ E → R ≡ f k t A B C D E
hulled5 f h s U V W X Y R k t A B C D E e i j l m n o p =
    e ∙ ap (λ z. f z s U V W X Y) i ∙ ap (λ z. f k z U V W X Y) j ∙ ap (λ Z. f k t Z V W X Y) l ∙
    ap (λ Z. f k t A Z W X Y) m
    ∙ ap (λ Z. f k t A B Z X Y) n ∙ ap (λ Z. f k t A B C Z Y) o ∙ ap (λ Z. f k t A B C D Z) p

pub drains : (h s k t : ℤ) (L V A B : Interval) → h ≡ k → s ≡ t → L ≡ A → V ≡ B → IsDrainable k t A.hi B.hi →
    IsDrainable h s L.hi V.hi
drains h s k t L V A B e f g i d =
    subst (λ z. IsDrainable z s L.hi V.hi) (sym e) (subst (λ z. IsDrainable k z L.hi V.hi) (sym f)
    (subst (λ (Z : Interval). IsDrainable k t Z.hi V.hi) (sym g)
    (subst (λ (Z : Interval). IsDrainable k t A.hi Z.hi) (sym i) d)))
