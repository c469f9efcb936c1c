use Rattle.std.proofs.Common.{◌∙◌}
use Rattle.stream_cell.specs.Seats.{opening_of}
use Rattle.cell_tests.proofs.cells.closed.Goals as goal

pub returns : goal.returns
returns c = λ k less. c.versions_have_one_shape.ensures (opening_of c.args.cell) c.close.result c.close.ensures.ordered k less ∙ c.requires.shape
