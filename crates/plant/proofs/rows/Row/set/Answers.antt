use Rattle.std.proofs.Common.{sym, subst, arith}
use Rattle.std.proofs.lemmas.Grind.{common_steps}
use Rattle.plant.specs.Rows.{IsRow}
use Rattle.plant.proofs.SetBands.{set-is-row}
use Rattle.plant.proofs.rows.Row.set.Goals as goal

pub returns-clause-set : goal.returns-clause-set
returns-clause-set c = grind (arith, common_steps)

pub returns-clause-row : goal.returns-clause-row
returns-clause-row c = λ parts row inside. subst (IsRow parts) (sym (returns-clause-set c))
    (set-is-row parts c.args.self.now c.args.stream c.args.channel c.args.band c.requires.stream row inside)
