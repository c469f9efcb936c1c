use Rattle.relaxation.proofs.Renewing.{earlier-renews}
use Rattle.relaxation.proofs.renewal_laws.registers_show_earlier_inputs.Goals as goal

pub returns : goal.returns
returns c = earlier-renews
