-- Term by term, by induction on the term.
use Rattle.quant.proofs.Terms.{intervals-inside}
use Rattle.quant.proofs.laws.terms_narrow.Goals as goal

pub returns : goal.returns
returns c = intervals-inside
