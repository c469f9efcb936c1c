-- What holds of the versions of all streams after legal steps.
use Rattle.relaxation.specs.Core.{reached}
use Rattle.relaxation.proofs.States.{reached-kept, version-holds, step-numbers, step-narrower, step-idle}
use Rattle.relaxation.proofs.Counts.{appended-at_most}
use Rattle.relaxation.proofs.Quiet.{quiet-run}
use Rattle.relaxation.proofs.core_laws.legal_steps_keep_the_run.Goals as goal

pub returns-clause-holds : goal.returns-clause-holds
returns-clause-holds c window steps is legal =
    version-holds window is (reached window steps) (reached-kept window is steps legal)

pub returns-clause-narrower : goal.returns-clause-narrower
returns-clause-narrower c window steps is legal s k l = ((reached-kept window is steps legal).each s l).narrower k

pub returns-clause-meets : goal.returns-clause-meets
returns-clause-meets c window steps step is legal h =
    step-numbers window is (reached window steps) (reached-kept window is steps legal) step h

pub returns-clause-narrows : goal.returns-clause-narrows
returns-clause-narrows c window steps step is legal h =
    step-narrower window is (reached window steps) (reached-kept window is steps legal) step h

pub returns-clause-idles : goal.returns-clause-idles
returns-clause-idles c window steps step is legal h =
    step-idle window is (reached window steps) (reached-kept window is steps legal) step h

pub returns-clause-counted : goal.returns-clause-counted
returns-clause-counted c window steps is legal =
    appended-at_most window is (reached window steps) (reached-kept window is steps legal)

pub returns-clause-quiet : goal.returns-clause-quiet
returns-clause-quiet c window steps is legal =
    quiet-run window is (reached window steps) (reached-kept window is steps legal)
