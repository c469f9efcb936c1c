-- The rows hold what a vessel's steps need.
use Rattle.basic_units.proofs.Vessels.{are_states}
use Rattle.basic_units.proofs.tank.TankKind.next_point.Goals as goal

pub stir_point-requires-clause-states : goal.stir_point-requires-clause-states
stir_point-requires-clause-states c = are_states c.args.self.now.limits c.args.state.now c.requires.sound.limits
    c.requires.states
