-- The laws of plants say it.
use Rattle.plant.proofs.PlantLaws.{parts-sound}
use Rattle.plant.proofs.laws.checked_parts_are_sound.Goals as goal

pub returns : goal.returns
returns c = parts-sound
