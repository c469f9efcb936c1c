-- Term by term, by induction on the term.
use Rattle.quant.proofs.Terms.{intervals-points}
use Rattle.quant.proofs.laws.terms_at_points.Goals as goal

pub returns : goal.returns
returns c = intervals-points
