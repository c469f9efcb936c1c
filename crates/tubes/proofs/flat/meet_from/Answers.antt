use Rattle.tubes.proofs.Fronts.{numbers_from, met_from}
use Rattle.tubes.proofs.flat.meet_from.Goals as goal

pub meet_bands-requires-clause-common : goal.meet_bands-requires-clause-common
meet_bands-requires-clause-common c = numbers_from _ _ _ c.requires.shape c.requires.start c.requires.inside c.requires.common

pub returns : goal.returns
returns c = met_from _ _ _ c.requires.shape c.requires.start c.requires.inside _ c.meet_bands.ensures
