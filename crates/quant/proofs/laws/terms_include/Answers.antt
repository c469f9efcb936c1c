-- Term by term, by induction on the term.
use Rattle.quant.proofs.Terms.{intervals-hold}
use Rattle.quant.proofs.laws.terms_include.Goals as goal

pub returns : goal.returns
returns c = intervals-hold
