-- The histories and what is gathered of them, by computation.
use Rattle.std.proofs.Common.{refl, ◌<◌, arith, lit<}
use Rattle.quant.specs.Rounding.{quotient}
use Rattle.quant.specs.Operation.{share, keep, blend, clamp}
use Rattle.relaxation.specs.History.{IsMadeFrom, numbered, history_of}
use Rattle.relaxation.specs.Worked.{window, unsound}
use Rattle.relaxation.proofs.WorkedHistories.{histories-sound, versions-gathered, versions-reversed}
use Rattle.relaxation.proofs.worked_laws.worked_histories.Goals as goal

pub returns-clause-sound : goal.returns-clause-sound
returns-clause-sound c = histories-sound

-- a step from a version that is not there is none
too-early : IsMadeFrom window unsound 0 0 (numbered (history_of unsound 2) 0) (numbered (history_of unsound 2) 1) → ⊥
too-early made = let there : 7 < 1 = made.refs.2.0 in omega (arith, there)

pub returns-clause-not_sound : goal.returns-clause-not_sound
returns-clause-not_sound c sound = too-early (sound.made 2 (lit< tt) 0 (lit< tt))

pub returns-clause-gathered : goal.returns-clause-gathered
returns-clause-gathered c = versions-gathered

pub returns-clause-not_gathered : goal.returns-clause-not_gathered
returns-clause-not_gathered c = versions-reversed

pub returns-clause-steps : goal.returns-clause-steps
returns-clause-steps c = refl

pub returns-clause-tubes : goal.returns-clause-tubes
unfolding quotient share keep blend clamp
returns-clause-tubes c = refl
