-- Each unit below this one has stepped its states.
use Rattle.plant.specs.Steps.{HaveStepped}
use Rattle.plant.proofs.plant.Plant.step_units.Given as goal

abbrev pub invariant-loop-number : goal.invariant-loop-number
invariant-loop-number l = HaveStepped l.self l.number l.streams l.fn.states l.states
