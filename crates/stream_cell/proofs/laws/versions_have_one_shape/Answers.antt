use Rattle.std.proofs.Common.{◌≡◌}
use Rattle.relaxation.specs.History.{numbered}
use Rattle.stream_cell.proofs.Growing.{within_shape}
use Rattle.stream_cell.proofs.laws.versions_have_one_shape.Goals as goal

pub returns : goal.returns
returns c = λ opening history is k less. within_shape (numbered history k).tube opening (is.inside k less)
