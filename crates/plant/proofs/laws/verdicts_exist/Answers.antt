-- The laws of plants say it.
use Rattle.plant.proofs.PlantLaws.{verdict-exists}
use Rattle.plant.proofs.laws.verdicts_exist.Goals as goal

pub returns : goal.returns
returns c = verdict-exists
