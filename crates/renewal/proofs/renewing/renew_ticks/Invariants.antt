-- The ticks so far are renewed.
use Rattle.renewal.specs.Ticks.{IsRenewed}
use Rattle.renewal.proofs.renewing.renew_ticks.Given as goal

abbrev pub invariant-loop-tick : goal.invariant-loop-tick
invariant-loop-tick l = IsRenewed l.plan l.unit l.inputs l.tick l.outputs
