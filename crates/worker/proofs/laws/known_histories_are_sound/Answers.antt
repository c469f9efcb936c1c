use Rattle.worker.proofs.Sound.{sound}
use Rattle.worker.proofs.laws.known_histories_are_sound.Goals as goal

pub returns : goal.returns
returns c plan hands histories is counted known closed = sound plan hands histories counted known closed
