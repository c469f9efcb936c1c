use Rattle.stream_cell.proofs.Growing.{opened_history, judged_history}
use Rattle.stream_cell.proofs.laws.histories_begin_with_their_opening.Goals as goal

pub returns-clause-opened : goal.returns-clause-opened
returns-clause-opened c = opened_history

pub returns-clause-met : goal.returns-clause-met
returns-clause-met c = judged_history
