-- The laws of plants say it.
use Rattle.plant.proofs.PlantLaws.{parts-ranked, parts-limited, parts-bands, parts-fed, parts-ordered}
use Rattle.plant.proofs.laws.built_plants_are_plants.Goals as goal

pub returns-clause-ranked : goal.returns-clause-ranked
returns-clause-ranked c = parts-ranked

pub returns-clause-limited : goal.returns-clause-limited
returns-clause-limited c = parts-limited

pub returns-clause-bands : goal.returns-clause-bands
returns-clause-bands c = parts-bands

pub returns-clause-fed : goal.returns-clause-fed
returns-clause-fed c = parts-fed

pub returns-clause-ordered : goal.returns-clause-ordered
returns-clause-ordered c = parts-ordered
