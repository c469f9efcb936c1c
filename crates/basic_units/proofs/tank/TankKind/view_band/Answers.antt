-- The row of states holds what is shown.
use Rattle.basic_units.proofs.Vessels.{are_state_bands}
use Rattle.basic_units.proofs.tank.TankKind.view_band.Goals as goal

pub show-requires-clause-states : goal.show-requires-clause-states
show-requires-clause-states c = (are_state_bands c.args.self.now.limits c.args.state.now c.requires.sound.limits
    c.requires.states).four
