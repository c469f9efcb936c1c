use Rattle.relax_core.specs.Settled.{bands_in}
use Rattle.window_accept.specs.Wide.{AreNarrowEnough}
use Rattle.window_accept.proofs.wide.first_wide.Given as goal

abbrev pub invariant-loop-tick : goal.invariant-loop-tick
invariant-loop-tick l = AreNarrowEnough l.plant (bands_in l.window) l.window.first l.tick
