use Rattle.flow_file.specs.Units.{opening_of}
use Rattle.flow_file.proofs.kinds.opening_of.Goals as goal

pub returns-clause-exact : goal.returns-clause-exact
unfolding opening_of
returns-clause-exact c = rw (
  c.in_ok-x.ensures.exact,
  c.in_ok-liquid_flow.ensures.exact,
  c.in_ok-vapour_flow.ensures.exact,
)
