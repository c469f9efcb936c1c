-- The unit at this place is sound.
use Rattle.std.proofs.Common.{◌<◌, List, [], length, get_or, set, ap, ◌∙◌, arith}
use Rattle.std.proofs.lemmas.List.{get_or_default}
use Rattle.quant.specs.Interval.{Interval}
use Rattle.plant_units.specs.declared.units.Unit.{Unit}
use Rattle.plant_units.specs.Steps.{gathered, steps}
use Rattle.plant_units.specs.Units.{reads_of}
use Rattle.plant.specs.Steps.{stepped_by}
use Rattle.plant.proofs.Stepping.{may-step, steps-are, states-after}
use Rattle.plant.proofs.plant.Plant.step_unit.Goals as goal

pub step-requires : goal.step-requires
step-requires c =
    let states : List (List Interval) = c.args.states.now in
    let at = c.unit.ensures in
    let within : c.args.number < length states = omega (arith, c.requires.unit, c.requires.states.counted) in
    rw (at, get_or_default states c.args.number _ [] within)
    (may-step c.args.self.now c.args.number _ states c.args.streams.now c.sound.ensures c.requires.states
    c.requires.streams c.requires.unit)

pub returns-clause-states : goal.returns-clause-states
returns-clause-states c =
    let state : List Interval = get_or c.args.states.now c.args.number c.index-states-number.result in
    let at = c.unit.ensures in
    let new = c.step.ensures ∙ ap (λ (u : Unit). steps u state (gathered (reads_of u) c.args.streams.now)) at in
    rw new
    (states-after c.args.self.now c.args.number _ state _ c.args.states.now c.sound.ensures c.requires.states
    c.requires.unit)

pub returns-clause-stepped : goal.returns-clause-stepped
returns-clause-stepped c =
    let parts = c.args.self.now in
    let states : List (List Interval) = c.args.states.now in
    let state : List Interval = get_or states c.args.number c.index-states-number.result in
    let at = c.unit.ensures in
    let within : c.args.number < length states = omega (arith, c.requires.unit, c.requires.states.counted) in
    ap (λ (bands : List Interval). set states c.args.number bands)
    (c.step.ensures ∙ (ap (λ (u : Unit). steps u state (gathered (reads_of u) c.args.streams.now)) at
    ∙ (steps-are parts c.args.number _ state c.args.streams.now c.requires.unit
    ∙ ap (stepped_by parts c.args.streams.now c.args.number) (get_or_default states c.args.number _ [] within))))
