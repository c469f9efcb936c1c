use Rattle.std.proofs.Common.{inl, inr}
use Rattle.std.proofs.lemmas.Bool.{cases_Bool}
use Rattle.relaxation.specs.Core.{is_idle}
use Rattle.relaxation.proofs.States.{version-holds, step-numbers, step-narrower, step-idle}
use Rattle.relaxation.proofs.Quiet.{quiet-run}
use Rattle.renewal.specs.Plan.{window_of}
use Rattle.relax_core.proofs.Boards.{board-open, board-kept, stream-below}
use Rattle.relax_core.proofs.laws.boards_keep_the_run.Goals as goal

pub returns-clause-holds : goal.returns-clause-holds
returns-clause-holds c board s k is l =
    version-holds (window_of board.plan) (board-open board is) board.versions (board-kept board is) s k (stream-below board is s l)

pub returns-clause-narrower : goal.returns-clause-narrower
returns-clause-narrower c board s k is l = ((board-kept board is).each s (stream-below board is s l)).narrower k

pub returns-clause-meets : goal.returns-clause-meets
returns-clause-meets c board step is legal =
    step-numbers (window_of board.plan) (board-open board is) board.versions (board-kept board is) step legal

pub returns-clause-same : goal.returns-clause-same
returns-clause-same c board step is legal = (
  step-idle (window_of board.plan) (board-open board is) board.versions (board-kept board is) step legal,
  (λ same. elim (cases_Bool (is_idle (window_of board.plan) board.versions step)) [
    | inl idle ↦ idle
    | inr more ↦ absurd ((step-narrower (window_of board.plan) (board-open board is) board.versions (board-kept board is) step legal more).other same)
  ]),
)

pub returns-clause-quiet : goal.returns-clause-quiet
returns-clause-quiet c board s is l quiet =
    quiet-run (window_of board.plan) (board-open board is) board.versions (board-kept board is) quiet s (stream-below board is s l)
