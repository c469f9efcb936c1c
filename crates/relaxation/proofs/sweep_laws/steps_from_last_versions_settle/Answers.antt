use Rattle.std.proofs.Common.{◌≡◌, subst, true}
use Rattle.relaxation.specs.Core.{opening_versions, reached, is_idle}
use Rattle.relaxation.proofs.States.{opening-kept}
use Rattle.relaxation.proofs.Growth.{done-idle}
use Rattle.relaxation.proofs.LastSteps.{idle-settled}
use Rattle.relaxation.proofs.sweep_laws.steps_from_last_versions_settle.Goals as goal

pub returns : goal.returns
returns c window steps step u p is legal done o last =
    idle-settled window (reached window steps) step.stream u p o
    (subst (λ numbers. is_idle window (reached window steps) (record { stream = step.stream; inputs = numbers }) ≡ true) last
    (done-idle window is (opening_versions window) steps step (opening-kept window is) legal done))
