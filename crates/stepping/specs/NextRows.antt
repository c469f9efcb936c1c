-- What a stepper answers: the rows of the session's next window, or why it has none.
use Rattle.std.specs.Prelude.{◌≡◌, ℕ, false, List, Result, Ok, Err}
use Rattle.feeds.specs.ReaderOf.{Feeding}
use Rattle.relax_core.specs.Settled.{WindowOf}
use Rattle.report.specs.Output.{output_rows}
use Rattle.window_accept.specs.declared.end.WindowEnd.{WindowEnd}
use Rattle.window_accept.specs.Session.{SessionOf, NextWindow}

abbrev pub NextRows : SessionOf → SessionOf → Feeding → Feeding → Result (List ℕ) WindowEnd → Type 0
NextRows old new reader read (Ok text) =
    (window : WindowOf) × NextWindow false old new reader read (Ok window) × (text ≡ output_rows old.parts window)
NextRows old new reader read (Err end) = NextWindow false old new reader read (Err end)
