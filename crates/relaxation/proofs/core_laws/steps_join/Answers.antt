-- By recursion along the first list.
use Rattle.std.proofs.Common.{[], ◌∷◌}
use Rattle.relaxation.proofs.Sequences.{replay-append, legal-append, narrowing-append}
use Rattle.relaxation.proofs.core_laws.steps_join.Goals as goal

pub returns-clause-replay : goal.returns-clause-replay
returns-clause-replay c = replay-append

pub returns-clause-step : goal.returns-clause-step
returns-clause-step c window state steps step = replay-append window state steps (step ∷ [])

pub returns-clause-legal : goal.returns-clause-legal
returns-clause-legal c = legal-append

pub returns-clause-narrowing : goal.returns-clause-narrowing
returns-clause-narrowing c = narrowing-append
