use Rattle.relaxation.proofs.Meets.{width-falls}
use Rattle.relaxation.proofs.tube_laws.narrower_tubes_are_less_wide.Goals as goal

pub returns : goal.returns
returns c = width-falls
