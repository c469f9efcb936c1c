-- The small recycle is ranked.
use Rattle.flowsheet.proofs.Worked.{recycle-ranked}
use Rattle.flowsheet.proofs.laws.recycles_are_ranked.Goals as goal

pub returns : goal.returns
returns c = recycle-ranked
