-- There are few units, and each carries on the states that its renewal ends with.
use Rattle.std.proofs.Common.{◌∙◌, [], ◌∷◌, ◌++◌, List, length, map, ap, sym, arith, zero-add}
use Rattle.std.proofs.lemmas.List.FromFn.{map-range_with_len_more}
use Rattle.std.specs.List.{range_with_len}
use Rattle.quant.specs.Interval.{Interval}
use Rattle.plant_units.specs.Units.{units_of}
use Rattle.renewal.proofs.Carrying.{carried_of, units-few}
use Rattle.renewal.proofs.ends.carry.Goals as goal

pub overflow_cast-unit-end : goal.overflow_cast-unit-end
overflow_cast-unit-end c =
    omega (arith, units-few _ c.plant.ensures.plan, ap length (c.units.ensures ∙ ap units_of c.plant.ensures.plant))

pub loop-unit-preserved : goal.loop-unit-preserved
loop-unit-preserved c =
    let carried = carried_of c.args.plan.now c.args.tubes.now in
    c.in_ok-push.ensures.items
    ∙ ap (λ (rows : List (List Interval)). rows ++ c.in_ok-carried_by.field-0 ∷ []) c.loop-unit.invariant
    ∙ ap (λ (row : List Interval). map carried (range_with_len 0 c.loop-unit.unit) ++ row ∷ [])
    c.in_ok-carried_by.ensures
    ∙ sym (map-range_with_len_more carried 0 c.loop-unit.unit c.loop-unit.unit (zero-add c.loop-unit.unit))
