-- By recursion on the points before.
use Rattle.quant.proofs.Lines.{lookup-below, lookup-between, lookup-above}
use Rattle.quant.proofs.laws.lookup_is_linear_between_points.Goals as goal

pub returns-clause-below : goal.returns-clause-below
returns-clause-below c = lookup-below

pub returns-clause-between : goal.returns-clause-between
returns-clause-between c = lookup-between

pub returns-clause-above : goal.returns-clause-above
returns-clause-above c = lookup-above
