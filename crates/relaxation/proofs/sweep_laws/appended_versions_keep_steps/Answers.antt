-- The versions that a step names stay, and the last version of its stream only narrows.
use Rattle.relaxation.specs.Core.{opening_versions, after_step, reached}
use Rattle.relaxation.proofs.States.{opening-kept, reached-kept}
use Rattle.relaxation.proofs.Stays.{step-stays, legal-stays, renewal-stays}
use Rattle.relaxation.proofs.Growth.{step-grown, idle-grown, done-idle}
use Rattle.relaxation.proofs.sweep_laws.appended_versions_keep_steps.Goals as goal

pub returns-clause-legal : goal.returns-clause-legal
returns-clause-legal c window state step other =
    legal-stays state (after_step window state other) (step-stays window state other) window step

pub returns-clause-renewal : goal.returns-clause-renewal
returns-clause-renewal c window state step other =
    renewal-stays state (after_step window state other) (step-stays window state other) window step

pub returns-clause-idle : goal.returns-clause-idle
returns-clause-idle c window steps step other is legal before =
    idle-grown (reached window steps) (after_step window (reached window steps) other)
    (step-grown window is (reached window steps) (reached-kept window is steps legal) other before) window step

pub returns-clause-done : goal.returns-clause-done
returns-clause-done c window steps step is legal =
    done-idle window is (opening_versions window) steps step (opening-kept window is) legal
