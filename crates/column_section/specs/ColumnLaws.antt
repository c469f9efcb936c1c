-- A column section keeps its limits.
use Rattle.std.proofs.Common.{◌≡◌, ℕ, zero, suc, ◌+◌, ◌-◌, ◌<◌, pos, List, [], ◌∷◌, ◌++◌, map, length, refl, sym, ap, subst, ◌∙◌, arith}
use Rattle.std.proofs.lemmas.List.{map-append}
use Rattle.std.proofs.lemmas.List.FromFn.{length-range_with_len}
use Rattle.std.specs.Prelude.{slice_index_or}
use Rattle.quant.specs.Interval.{Interval, AllBands, AllInside, IsInside, point}
use Rattle.quant.specs.Rounding.{Floor}
use Rattle.quant.specs.Ports.{outputs}
use Rattle.quant.specs.Term.{interval, intervals}
use Rattle.quant.proofs.Calls.{clamped-inside}
use Rattle.quant.proofs.Terms.{place-inside}
use Rattle.column_section.specs.declared.column.Column.{Column}
use Rattle.column_section.specs.Column.{IsSound, stages_of, stage, registers, next_terms, view_terms, state_limits, register_limits, output_limits}

-- intervals one after another
inside-append : (As Bs Cs Ds : List Interval) → AllInside As Bs → AllInside Cs Ds → AllInside (As ++ Cs) (Bs ++ Ds)
inside-append [] [] Cs Ds h k = k
inside-append [] (B ∷ Bs) Cs Ds h k = absurd h
inside-append (A ∷ As) [] Cs Ds h k = absurd h
inside-append (A ∷ As) (B ∷ Bs) Cs Ds h k = (h.0, inside-append As Bs Cs Ds h.1 k)

-- each stage is clamped by the limits of conc
stages-limited : (column : Column) (stages : List ℕ) (states inputs : List Interval) → IsSound column →
    AllInside (intervals Floor (map (stage column) stages) states inputs) (map (λ i. column.limits.conc) stages)
stages-limited column [] states inputs sound = tt
stages-limited column (i ∷ stages) states inputs sound =
    (clamped-inside column.limits.conc _ sound.limits.conc.0, stages-limited column stages states inputs sound)

-- and each flow and temperature by its own
registers-limited : (column : Column) (states inputs : List Interval) → IsSound column →
    AllInside (intervals Floor (registers column) states inputs) (register_limits column)
registers-limited column states inputs sound = (
  clamped-inside column.limits.flow _ sound.limits.flow.0,
  (
    clamped-inside column.limits.temp _ sound.limits.temp.0,
    (
      clamped-inside column.limits.flow _ sound.limits.flow.0,
      (clamped-inside column.limits.temp _ sound.limits.temp.0, tt),
    ),
  ),
)

pub next-limited : (column : Column) (states inputs : List Interval) → IsSound column →
    AllInside (intervals Floor (next_terms column) states inputs) (state_limits column)
next-limited column states inputs sound =
    subst (λ As. AllInside As (state_limits column))
    (sym (map-append (interval Floor states inputs) (map (stage column) (stages_of column)) (registers column)))
    (inside-append (intervals Floor (map (stage column) (stages_of column)) states inputs)
    (map (λ i. column.limits.conc) (stages_of column))
    (intervals Floor (registers column) states inputs) (register_limits column)
    (stages-limited column (stages_of column) states inputs sound) (registers-limited column states inputs sound))

-- the limits at each place
among : (A : Interval) (ks : List ℕ) (rest : List Interval) (place : ℕ) (d : Interval) → place < length ks →
    slice_index_or (map (λ k. A) ks ++ rest) place d ≡ A
among A [] rest place d h = absurd (omega arith)
among A (k ∷ ks) rest zero d h = refl
among A (k ∷ ks) rest (suc place) d h = among A ks rest place d (omega arith)

behind : (A : Interval) (ks : List ℕ) (rest : List Interval) (j place : ℕ) (d : Interval) → place ≡ length ks + j →
    slice_index_or (map (λ k. A) ks ++ rest) place d ≡ slice_index_or rest j d
behind A [] rest j place d e = ap (λ n. slice_index_or rest n d) (omega arith)
behind A (k ∷ ks) rest j place d e =
    let further : place ≡ suc (length ks + j) = omega arith in
    ap (λ n. slice_index_or (map (λ i. A) (k ∷ ks) ++ rest) n d) further ∙ behind A ks rest j (length ks + j) d refl

pub stage-limits : (column : Column) (i : ℕ) → i < column.stages →
    slice_index_or (state_limits column) i (point (pos 0)) ≡ column.limits.conc
stage-limits column i h = among column.limits.conc (stages_of column) (register_limits column) i (point (pos 0))
    (omega (arith, length-range_with_len 0 column.stages))

pub register-limits : (column : Column) (j place : ℕ) → place ≡ column.stages + j →
    slice_index_or (state_limits column) place (point (pos 0)) ≡ slice_index_or (register_limits column) j
    (point (pos 0))
register-limits column j place e = behind column.limits.conc (stages_of column) (register_limits column) j place
    (point (pos 0)) (omega (arith, length-range_with_len 0 column.stages))

-- what is read from the states lies in the limits of its place
placed : (column : Column) (states : List Interval) (place : ℕ) (A : Interval) →
    AllInside states (state_limits column) →
    slice_index_or (state_limits column) place (point (pos 0)) ≡ A →
    IsInside (slice_index_or states place (point (pos 0))) A
placed column states place A h e = subst (IsInside (slice_index_or states place (point (pos 0)))) e
    (place-inside states (state_limits column) place h)

pub view-limited : (column : Column) (states : List Interval) → IsSound column → AllBands states →
    AllInside states (state_limits column) →
    AllInside (intervals Floor (outputs (view_terms column)) states []) (outputs (output_limits column))
view-limited column states sound bands inside = (
  placed column states column.stages column.limits.flow inside (register-limits column 0 column.stages (omega arith)),
  (
    placed column states (column.stages - 1) column.limits.conc inside
        (stage-limits column (column.stages - 1) (omega (arith, sound.some))),
    (
      placed column states (column.stages + 1) column.limits.temp inside
          (register-limits column 1 (column.stages + 1) refl),
      (
        placed column states (column.stages + 2) column.limits.flow inside
            (register-limits column 2 (column.stages + 2) refl),
        (
          clamped-inside column.limits.conc _ sound.limits.conc.0,
          (
            placed column states (column.stages + 3) column.limits.temp inside
                (register-limits column 3 (column.stages + 3) refl),
            tt,
          ),
        ),
      ),
    ),
  ),
)
