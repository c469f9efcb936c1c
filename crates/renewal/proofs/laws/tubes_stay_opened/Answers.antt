use Rattle.renewal.proofs.Openings.{opening-opened, set-opened}
use Rattle.renewal.proofs.laws.tubes_stay_opened.Goals as goal

pub returns-clause-opening : goal.returns-clause-opening
returns-clause-opening c = opening-opened

pub returns-clause-read : goal.returns-clause-read
returns-clause-read c = set-opened
