use Rattle.std.proofs.Common.{◌≡◌, map, take}
use Rattle.relax_core.specs.Adopting.{made_row}
use Rattle.workers.proofs.answering.keep_rows.Given as goal

abbrev pub invariant-loop-version : goal.invariant-loop-version
invariant-loop-version l = l.rows.items ≡ map made_row (take l.version-index l.made)
