-- The opening row is a row.
use Rattle.plant.proofs.Givens.{opening-is-row}
use Rattle.plant.proofs.plant.Plant.row.Goals as goal

pub returns-clause-row : goal.returns-clause-row
returns-clause-row c =
    rw (c.in_ok-states.ensures, c.in_ok-streams.ensures) (opening-is-row c.args.self.now c.sound.ensures)
