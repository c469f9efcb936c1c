-- The laws of plants say it.
use Rattle.plant.proofs.PlantLaws.{verdict-unique}
use Rattle.plant.proofs.laws.verdicts_are_unique.Goals as goal

pub returns : goal.returns
returns c = verdict-unique
