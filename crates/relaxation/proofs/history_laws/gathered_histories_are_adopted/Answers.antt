-- The gathered versions hold those of each stream in order, and are adopted one after another.
use Rattle.relaxation.specs.Core.{opening_versions}
use Rattle.relaxation.proofs.Gathers.{gathered_streams}
use Rattle.relaxation.proofs.Adopted.{gathered_adopted, adopted_legal, adopted_narrowing}
use Rattle.relaxation.proofs.history_laws.gathered_histories_are_adopted.Goals as goal

pub returns-clause-streams : goal.returns-clause-streams
returns-clause-streams c window histories made sound gathered s l = gathered_streams histories made gathered s l (sound.history s l)

pub returns-clause-adopted : goal.returns-clause-adopted
returns-clause-adopted c window histories made sound gathered = (gathered_adopted window histories made sound gathered).0

pub returns-clause-legal : goal.returns-clause-legal
returns-clause-legal c window histories made sound gathered =
    adopted_legal window (opening_versions window) made (gathered_adopted window histories made sound gathered).0

pub returns-clause-narrowing : goal.returns-clause-narrowing
returns-clause-narrowing c window histories made sound gathered =
    adopted_narrowing window (opening_versions window) made (gathered_adopted window histories made sound gathered).0

pub returns-clause-replay : goal.returns-clause-replay
returns-clause-replay c window histories made sound gathered = (gathered_adopted window histories made sound gathered).1
