use Rattle.workers.proofs.Adoptions.{adopted, legal, narrowing, replayed}
use Rattle.workers.proofs.laws.gathered_histories_can_be_adopted.Goals as goal

pub returns-clause-adopted : goal.returns-clause-adopted
returns-clause-adopted c = adopted

pub returns-clause-legal : goal.returns-clause-legal
returns-clause-legal c = legal

pub returns-clause-narrowing : goal.returns-clause-narrowing
returns-clause-narrowing c = narrowing

pub returns-clause-replay : goal.returns-clause-replay
returns-clause-replay c = replayed
