use Rattle.plant.proofs.PlantLaws.{port-limits}
use Rattle.plant.proofs.laws.outputs_share_limits_with_streams.Goals as goal

pub returns : goal.returns
returns c = port-limits
