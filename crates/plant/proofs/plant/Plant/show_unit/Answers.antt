-- The unit at this place is sound.
use Rattle.std.proofs.Common.{List, get_or, ap, ◌∙◌}
use Rattle.quant.specs.Interval.{Interval}
use Rattle.plant_units.specs.declared.units.Unit.{Unit}
use Rattle.plant_units.specs.Steps.{shows}
use Rattle.plant_units.specs.Units.{units_of}
use Rattle.plant.proofs.Showing.{may-show, has-room, has-shown}
use Rattle.plant.proofs.Rounds.{row-after}
use Rattle.plant.proofs.plant.Plant.show_unit.Goals as goal

pub show-requires-clause-may : goal.show-requires-clause-may
show-requires-clause-may c =
    rw (c.unit.ensures, c.bands_at.ensures)
    (may-show c.args.self.now c.args.number _ c.args.states.now c.args.streams.now c.sound.ensures c.requires.row
    c.requires.inputs c.requires.unit)

pub show-requires-clause-room : goal.show-requires-clause-room
show-requires-clause-room c =
    rw (c.unit.ensures, c.bands_at.ensures)
    (has-room c.args.self.now c.args.number _ c.args.states.now c.args.streams.now _ c.sound.ensures c.requires.row
    c.requires.unit)

pub returns-clause-shown : goal.returns-clause-shown
returns-clause-shown c =
    let streams : List (List Interval) = c.args.streams.now in
    let unit = get_or (units_of c.args.self.now) c.args.number c.unit.result.now in
    let after = c.show.ensures
    ∙ (ap (λ (u : Unit). shows u c.bands_at.result.now streams) c.unit.ensures
    ∙ ap (λ (s : List Interval). shows unit s streams) c.bands_at.ensures) in
    rw after
    (has-shown c.args.self.now c.args.number _ c.args.states.now streams c.sound.ensures c.requires.row c.requires.unit)

pub returns-clause-row : goal.returns-clause-row
returns-clause-row c =
    row-after c.args.self.now c.args.number c.args.states.now c.args.streams.now c.show.new.streams c.sound.ensures
    c.requires.row (returns-clause-shown c) c.show.auto.streams
