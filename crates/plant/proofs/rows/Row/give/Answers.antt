use Rattle.std.proofs.Common.{sym, subst, arith}
use Rattle.std.proofs.lemmas.Grind.{common_steps}
use Rattle.plant.specs.Rows.{IsRow}
use Rattle.plant.proofs.SetBands.{given-is-row}
use Rattle.plant.proofs.rows.Row.give.Goals as goal

pub returns-clause-given : goal.returns-clause-given
returns-clause-given c = grind (arith, common_steps)

pub returns-clause-row : goal.returns-clause-row
returns-clause-row c = λ parts row inside. subst (IsRow parts) (sym (returns-clause-given c))
    (given-is-row parts c.args.self.now c.args.stream c.args.bands.now c.requires.stream c.requires.channels row (λ l. inside))
