-- By recursion on the sweeps, from the state that the legal steps reach.
use Rattle.std.proofs.Common.{length}
use Rattle.relaxation.specs.Core.{reached}
use Rattle.relaxation.specs.Sweep.{replay_sweeps}
use Rattle.relaxation.proofs.States.{reached-kept}
use Rattle.relaxation.proofs.Sweeps.{sweeps-kept, sweeps-below}
use Rattle.relaxation.proofs.Counts.{sweeps-count}
use Rattle.relaxation.proofs.Places.{all-quiet}
use Rattle.relaxation.proofs.sweep_laws.sweeps_settle.Goals as goal

pub returns-clause-places : goal.returns-clause-places
returns-clause-places c window steps sweeps is legal are =
    sweeps-below window is (reached window steps) (reached-kept window is steps legal) sweeps are

pub returns-clause-versions : goal.returns-clause-versions
returns-clause-versions c window steps sweeps is legal are s l =
    sweeps-count window is (reached window steps) sweeps (reached-kept window is steps legal) are s

pub returns-clause-quiet : goal.returns-clause-quiet
returns-clause-quiet c window steps sweeps is legal are all =
    all-quiet window is (replay_sweeps window (reached window steps) sweeps)
    (sweeps-kept window is (reached window steps) sweeps (reached-kept window is steps legal) are)
    (length sweeps) (sweeps-below window is (reached window steps) (reached-kept window is steps legal) sweeps are) all
