-- The ticks so far.
use Rattle.std.proofs.Common.{◌≡◌}
use Rattle.report.specs.Output.{labels_of}
use Rattle.stepping.specs.Stepping.{HasStepped, plan_from}
use Rattle.stepping.proofs.ticks.step_ticks.Given as goal

abbrev pub invariant-loop-tick : goal.invariant-loop-tick
invariant-loop-tick l = record {
  streams : l.streams ≡ labels_of l.plant;
  stepped : HasStepped (plan_from l.plant l.first l.ticks l.fn.row l.feeds) l.tick l.row l.rows;
}
