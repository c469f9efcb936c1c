use Rattle.std.proofs.Common.{sym}
use Rattle.std.proofs.lemmas.List.{take-map}
use Rattle.plant_checks.specs.Seen.{name_seen}
use Rattle.plant_checks.proofs.names.first.Goals as goal

pub returns-then-count-names : goal.returns-then-count-names
returns-then-count-names c = sym (take-map name_seen c.args.count c.args.names.now)
