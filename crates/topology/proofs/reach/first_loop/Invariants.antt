use Rattle.std.proofs.Common.{ℕ, ◌<◌}
use Rattle.topology.specs.Links.{Path}
use Rattle.topology.proofs.reach.first_loop.Given as goal

-- no unit so far reaches itself
abbrev pub invariant-loop-unit : goal.invariant-loop-unit
invariant-loop-unit l = (v : ℕ) → v < l.unit → ¬ Path l.links v v
