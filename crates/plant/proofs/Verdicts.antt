-- One verdict on parts at most.
use Rattle.std.proofs.Common.{◌≤◌, ℕ, Ok, Err, ◌≡◌, ◌⊎◌, refl, sym, subst, inl, inr, ◌<◌, arith, ap, ◌∙◌}
use Rattle.std.specs.Prelude.{slice_index}
use Rattle.std.proofs.lemmas.Bool.{cases_lt}
use Rattle.topology.specs.Links.{IsFirstLoop}
use Rattle.topology.proofs.Ascents.{no_loop}
use Rattle.parts.specs.Parts.{FileParts}
use Rattle.plant_checks.specs.declared.fault.PlantFault.TheVariants as fault
use Rattle.plant_checks.specs.Checks.{Checked, checked}
use Rattle.plant_checks.specs.declared.fault.PlantFault.{PlantFault}
use Rattle.plant.specs.PlantOf.{links_of, ranks_of}
use Rattle.plant.specs.Verdict.{AreRanked, IsFirstDeep, unit_name, IsVerdict}

-- what is judged once the parts pass the checks
data Judged (parts : FileParts) : Checked → Type 0 where
  passes : AreRanked parts → ((u : ℕ) → slice_index (ranks_of parts) u ≤ 16) → Judged parts (Ok tt)
  loops : (u : ℕ) → IsFirstLoop (links_of parts) u → Judged parts (Err (fault.InstantLoop (unit_name parts u)))
  deep : (u : ℕ) → AreRanked parts → IsFirstDeep parts u → Judged parts (Err (fault.TooDeep (unit_name parts u)))

-- a verdict is a refusal by the checks, or is judged after them
abbrev IsEither : FileParts → Checked → Type 0
IsEither parts verdict =
    ((refusal : PlantFault) × (checked parts ≡ Err refusal) × (verdict ≡ Err refusal))
    ⊎ ((checked parts ≡ Ok tt) × Judged parts verdict)

either : (parts : FileParts) (verdict : Checked) → IsVerdict parts verdict → IsEither parts verdict
either parts (Ok tt) v = inr (v.0, passes v.1 v.2)
either parts (Err (fault.InstantLoop name)) v =
    inr (v.0, subst (λ name. Judged parts (Err (fault.InstantLoop name))) (sym v.1.2) (loops v.1.0 v.1.1))
either parts (Err (fault.TooDeep name)) v =
    inr (v.0, subst (λ name. Judged parts (Err (fault.TooDeep name))) (sym v.2.2) (deep v.2.0 v.1 v.2.1))
either parts (Err (fault.Twice name)) v = inl (_, v, refl)
either parts (Err (fault.NoSource place)) v = inl (_, v, refl)
either parts (Err (fault.WrongPort place)) v = inl (_, v, refl)
either parts (Err (fault.BadLimits place)) v = inl (_, v, refl)
either parts (Err (fault.StartOutside place)) v = inl (_, v, refl)
either parts (Err (fault.FeedPieces place)) v = inl (_, v, refl)
either parts (Err (fault.FeedOutside place)) v = inl (_, v, refl)
either parts (Err (fault.TableFalls place)) v = inl (_, v, refl)
either parts (Err (fault.ColumnTooFast name)) v = inl (_, v, refl)

-- the first of its kind is one
same-first : (P : ℕ → Type 0) (u v : ℕ) → P u → P v → ((w : ℕ) → w < u → ¬ P w) → ((w : ℕ) → w < v → ¬ P w) → u ≡ v
same-first P u v h k f g = elim (cases_lt u v) [
  | inl l ↦ absurd (g u l h)
  | inr l ↦ elim (cases_lt v u) [ inl m ↦ absurd (f v m k) | inr m ↦ omega arith ]
]

one-loop : (parts : FileParts) (u v : ℕ) → IsFirstLoop (links_of parts) u → IsFirstLoop (links_of parts) v → u ≡ v
one-loop parts u v h k = same-first _ u v h.loops k.loops h.first k.first

one-deep : (parts : FileParts) (u v : ℕ) → IsFirstDeep parts u → IsFirstDeep parts v → u ≡ v
one-deep parts u v h k =
    same-first (λ w. 16 < slice_index (ranks_of parts) w) u v h.deep k.deep
    (λ w l m. let n : slice_index (ranks_of parts) w ≤ 16 = h.first w l in omega arith)
    (λ w l m. let n : slice_index (ranks_of parts) w ≤ 16 = k.first w l in omega arith)

one-judged : (parts : FileParts) (one other : Checked) → Judged parts one → Judged parts other → one ≡ other
one-judged parts _ _ (passes r s) (passes q t) = refl
one-judged parts _ _ (passes r s) (loops v k) = absurd (no_loop (links_of parts) (ranks_of parts) r v k.loops)
one-judged parts _ _ (passes r s) (deep v q k) =
    absurd (let m : slice_index (ranks_of parts) v ≤ 16 = s v in let n : 16 < slice_index (ranks_of parts) v = k.deep in
    omega arith)
one-judged parts _ _ (loops u h) (passes q t) = absurd (no_loop (links_of parts) (ranks_of parts) q u h.loops)
one-judged parts _ _ (loops u h) (loops v k) =
    ap (λ w. Err (fault.InstantLoop (unit_name parts w))) (one-loop parts u v h k)
one-judged parts _ _ (loops u h) (deep v q k) = absurd (no_loop (links_of parts) (ranks_of parts) q u h.loops)
one-judged parts _ _ (deep u r h) (passes q t) =
    absurd (let m : slice_index (ranks_of parts) u ≤ 16 = t u in let n : 16 < slice_index (ranks_of parts) u = h.deep in
    omega arith)
one-judged parts _ _ (deep u r h) (loops v k) = absurd (no_loop (links_of parts) (ranks_of parts) r v k.loops)
one-judged parts _ _ (deep u r h) (deep v q k) =
    ap (λ w. Err (fault.TooDeep (unit_name parts w))) (one-deep parts u v h k)

one-either : (parts : FileParts) (one other : Checked) → IsEither parts one → IsEither parts other → one ≡ other
one-either parts one other (inl a) (inl b) = a.2 ∙ sym a.1 ∙ b.1 ∙ sym b.2
one-either parts one other (inl a) (inr b) = absurd (let e = a.1 in let g = b.0 in cc)
one-either parts one other (inr a) (inl b) = absurd (let e = a.0 in let g = b.1 in cc)
one-either parts one other (inr a) (inr b) = one-judged parts one other a.1 b.1

pub one-verdict : (parts : FileParts) (one other : Checked) → IsVerdict parts one → IsVerdict parts other → one ≡ other
one-verdict parts one other v w = one-either parts one other (either parts one v) (either parts other w)
