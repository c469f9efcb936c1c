use Rattle.relax_core.proofs.Boards.{streams-there, some-version, first-version, all-within}
use Rattle.relax_core.proofs.laws.boards_have_versions.Goals as goal

pub returns-clause-lines : goal.returns-clause-lines
returns-clause-lines c = streams-there

pub returns-clause-some : goal.returns-clause-some
returns-clause-some c board s is = some-version board is s

pub returns-clause-first : goal.returns-clause-first
returns-clause-first c board s is = first-version board is s

pub returns-clause-within : goal.returns-clause-within
returns-clause-within c board s k is = all-within board is s k
