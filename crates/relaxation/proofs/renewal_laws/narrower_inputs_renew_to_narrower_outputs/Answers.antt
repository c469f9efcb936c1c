use Rattle.relaxation.proofs.Renewing.{narrower-renews}
use Rattle.relaxation.proofs.renewal_laws.narrower_inputs_renew_to_narrower_outputs.Goals as goal

pub returns : goal.returns
returns c = narrower-renews
