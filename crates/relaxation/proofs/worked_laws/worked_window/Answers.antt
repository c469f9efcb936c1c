-- The worked window, by computation.
use Rattle.std.proofs.Common.{refl, arith}
use Rattle.quant.specs.Rounding.{quotient}
use Rattle.quant.specs.Operation.{share, keep, blend, clamp}
use Rattle.relaxation.proofs.Worked.{worked-open, worked-legal, worked-quiet, worked-restless}
use Rattle.relaxation.proofs.worked_laws.worked_window.Goals as goal

pub returns-clause-open : goal.returns-clause-open
returns-clause-open c = worked-open

pub returns-clause-legal : goal.returns-clause-legal
returns-clause-legal c = worked-legal

pub returns-clause-narrowing : goal.returns-clause-narrowing
unfolding quotient share keep blend clamp
returns-clause-narrowing c = (refl, (refl, tt))

pub returns-clause-outflow : goal.returns-clause-outflow
unfolding quotient share keep blend clamp
returns-clause-outflow c = refl

pub returns-clause-level : goal.returns-clause-level
unfolding quotient share keep blend clamp
returns-clause-level c = refl

pub returns-clause-run : goal.returns-clause-run
unfolding quotient share keep blend clamp
returns-clause-run c = refl

pub returns-clause-quiet : goal.returns-clause-quiet
returns-clause-quiet c = worked-quiet

pub returns-clause-not_quiet : goal.returns-clause-not_quiet
returns-clause-not_quiet c = worked-restless

pub returns-clause-not_legal : goal.returns-clause-not_legal
returns-clause-not_legal c h = omega (arith, h.inputs.1.0)
