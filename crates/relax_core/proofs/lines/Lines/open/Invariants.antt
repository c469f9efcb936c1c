-- The streams so far have their opening tubes.
use Rattle.renewal.specs.Plan.{window_of}
use Rattle.relax_core.proofs.Replaced.{AreOpening}
use Rattle.relax_core.proofs.lines.Lines.open.Given as goal

abbrev pub invariant-loop-stream : goal.invariant-loop-stream
invariant-loop-stream l = AreOpening (window_of l.plan).opening l.stream l.lines.items
