use Rattle.parts.proofs.PieceLaws.{some_in_force, up_to_the_next}
use Rattle.parts.proofs.laws.one_piece_is_in_force.Goals as goal

pub returns : goal.returns
returns c = record { some = some_in_force; until_the_next = up_to_the_next }
