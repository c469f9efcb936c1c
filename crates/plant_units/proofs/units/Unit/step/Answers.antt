-- A unit without states steps to none, and one with states has few of them, and reads few channels.
use Rattle.std.proofs.Common.{◌≡◌, ◌<◌, List, ℕ, length, ap, subst, sym, arith}
use Rattle.std.specs.List.{AllByRecursion}
use Rattle.plant_units.specs.Steps.{gathered}
use Rattle.plant_units.specs.Units.{reads_of}
use Rattle.plant_units.proofs.AllKinds.{steps-none, states-few, inputs-few}
use Rattle.plant_units.proofs.units.Unit.step.Goals as goal

pub returns-then-states-eq0 : goal.returns-then-states-eq0
returns-then-states-eq0 c =
    let e : length c.args.state.now ≡ 0 = omega (arith, ap length c.as_slice-states.ensures) in
    steps-none c.args.self.now c.args.state.now (gathered (reads_of c.args.self.now) c.args.streams.now)
    c.requires.sound c.requires.states e

pub gather-count-requires-clause-known : goal.gather-count-requires-clause-known
gather-count-requires-clause-known c =
    subst (λ (ns : List ℕ). AllByRecursion (λ s. s < length c.args.streams.now) ns) (sym c.inputs.ensures)
    c.requires.known

pub gather-count-requires-clause-room : goal.gather-count-requires-clause-room
gather-count-requires-clause-room c =
    rw c.inputs.ensures
    (inputs-few c.args.self.now c.args.state.now (gathered (reads_of c.args.self.now) c.args.streams.now)
    c.requires.states c.requires.inputs
    (omega (arith, ap length c.as_slice-states.ensures)))

pub step_in-requires-else-states-le-FEW_STATES-clause-room : goal.step_in-requires-else-states-le-FEW_STATES-clause-room
step_in-requires-else-states-le-FEW_STATES-clause-room c =
    states-few c.args.self.now c.args.state.now c.requires.sound c.requires.states
