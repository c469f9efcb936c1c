use Rattle.stream_cell.proofs.Growing.{newest_shape, newest_stamp}
use Rattle.stream_cell.proofs.laws.last_versions_can_be_met.Goals as goal

pub returns-clause-shape : goal.returns-clause-shape
returns-clause-shape c = newest_shape

pub returns-clause-stamp : goal.returns-clause-stamp
returns-clause-stamp c = newest_stamp
