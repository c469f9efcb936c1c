use Rattle.stream_cell.proofs.Reading.{copy_fits}
use Rattle.stream_cell.proofs.history.History.tube.Goals as goal

pub copy_tube-requires-clause-shape : goal.copy_tube-requires-clause-shape
copy_tube-requires-clause-shape c =
    copy_fits c.self.invariant c.args.self.now c.self.view_is c.args.version c.requires c.in_ok-tube.tube c.in_ok-tube.ensures
