use Rattle.plant_gen.proofs.Accepted.{is-plant, not-refused, plant_units-counted, mixer-rank, tank-rank, splitter-rank}
use Rattle.plant_gen.proofs.Sources.{streams-counted}
use Rattle.plant_gen.proofs.laws.generated_plants_are_plants.Goals as goal

pub returns-clause-plants : goal.returns-clause-plants
returns-clause-plants c = is-plant

pub returns-clause-not_refused : goal.returns-clause-not_refused
returns-clause-not_refused c = not-refused

pub returns-clause-units : goal.returns-clause-units
returns-clause-units c = plant_units-counted

pub returns-clause-streams : goal.returns-clause-streams
returns-clause-streams c = streams-counted

pub returns-clause-mixers : goal.returns-clause-mixers
returns-clause-mixers c = mixer-rank

pub returns-clause-tanks : goal.returns-clause-tanks
returns-clause-tanks c = tank-rank

pub returns-clause-splitters : goal.returns-clause-splitters
returns-clause-splitters c = splitter-rank
