-- What the units have shown and stepped is the tick.
use Rattle.plant.proofs.RowTicks.{streams-after, row-of-tick, step-of-tick, states-of-row}
use Rattle.plant.proofs.plant.Plant.tick.Goals as goal

pub step_units-requires : goal.step_units-requires
step_units-requires c = record {
  states = states-of-row c.args.self.now c.args.states.now c.args.streams.now c.requires;
  streams = streams-after c.args.self.now c.args.states.now c.args.streams.now c.show_units.new.streams
      c.sound.ensures c.ranked.ensures.ranked c.requires
      c.show_units.ensures;
}

pub returns-clause-row : goal.returns-clause-row
returns-clause-row c =
    row-of-tick c.args.self.now (record { states = c.args.states.now; streams = c.args.streams.now })
    (record { states = c.step_units.new.states; streams = c.show_units.new.streams }) c.show_units.ensures
    c.step_units.ensures

pub returns-clause-step : goal.returns-clause-step
returns-clause-step c =
    step-of-tick c.args.self.now (record { states = c.args.states.now; streams = c.args.streams.now })
    (record { states = c.step_units.new.states; streams = c.show_units.new.streams }) c.ranked.ensures.ranked
    c.show_units.ensures c.step_units.ensures
