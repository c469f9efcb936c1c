use Rattle.std.proofs.Common.{◌≡◌, ◌++◌, drop}
use Rattle.report.specs.Trace.{names_of, steps_from}
use Rattle.report.proofs.texts.trace_rows.Given as goal

-- the rows so far and those of the steps that are left are the rows of all
abbrev pub invariant-loop-step : goal.invariant-loop-step
invariant-loop-step l =
    l.rows ++ steps_from (names_of l.plant) l.index l.step (drop l.step l.window.steps)
    ≡ steps_from (names_of l.plant) l.index 0 l.window.steps
