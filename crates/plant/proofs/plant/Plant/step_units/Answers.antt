-- One unit more has stepped its states.
use Rattle.std.proofs.Common.{arith}
use Rattle.plant.proofs.Stepping.{have_stepped-none, have_stepped-more}
use Rattle.plant.proofs.plant.Plant.step_units.Goals as goal

pub loop-number-init : goal.loop-number-init
loop-number-init c = have_stepped-none c.args.self.now c.args.streams.now c.args.states.now c.requires.states

pub loop-number-preserved : goal.loop-number-preserved
loop-number-preserved c =
    have_stepped-more c.args.self.now c.loop-number.number c.args.streams.now c.args.states.now c.loop-number.states
    c.step_unit.new.states
    (omega (arith, c.requires.states.counted, c.loop-number-test.true)) c.loop-number.invariant
    c.step_unit.ensures.states c.step_unit.ensures.stepped
