-- The points of a rate table.
use Rattle.std.proofs.Common.{◌≡◌, ℕ, zero, suc, ap, ◌-◌, ℤ, pos, List, slice_index_or, refl, ◌∙◌, arith}
use Rattle.std.specs.Prelude.{Bool, ◌&&◌, int_le, int_lt}
use Rattle.plant_checks.specs.Checks.{rises_well}

-- a point that rises from the one before it rises well
pub rises_later : (points : List (ℤ × ℤ)) (index : ℕ) (point before : ℤ × ℤ) (rises : Bool) → (index ≡ 0 → ⊥) →
    before ≡ slice_index_or points (index - 1) (pos 0, pos 0) →
    rises ≡ (int_lt before.0 point.0 && int_le before.1 point.1) → rises ≡ rises_well points index point
rises_later points zero point before rises n e r = absurd (n refl)
rises_later points (suc i) point before rises n e r =
    let k : suc i - 1 ≡ i = omega arith in
    r ∙ ap (λ (p : ℤ × ℤ). int_lt p.0 point.0 && int_le p.1 point.1)
    (e ∙ ap (λ (j : ℕ). slice_index_or points j (pos 0, pos 0)) k)
