use Rattle.std.proofs.Common.{rules, ◌∷◌, [], ◌+◌, refl, ◌%◌, ◌^◌, sym, ◌∙◌, subst}
use mathlib.Core.Option.{none}
use Rattle.atomic_table.specs.Table.{Allows, step}
use Rattle.stream_cell.specs.Cell.{IsCell}
use Rattle.stream_cell.specs.Kinds.{MyMe, appended, appending}
use Rattle.stream_cell.specs.Steps.{IsAt}
use Rattle.stream_cell.proofs.Stepping.{appends}
use Rattle.stream_cell.proofs.passes.StreamCell.append.Goals as goal

pub fetch_add-requires : goal.fetch_add-requires
fetch_add-requires c =
    let table = c.args.self.now.table.shared in
    let is = c.requires.2 in (
      is.at.table,
      search rules,
      subst (λ (me : MyMe). Allows (IsCell table.key) table.table_id.slots c.args.pass.now.seat.id me 1 (λ n. (n + 1) % 2 ^ 64) (appended (step table.table_id.slots 1 1 0 none) me))
          (sym is.at.me)
          (appends table.key _ _ (step table.table_id.slots 1 1 0 none) c.requires.0 c.requires.1 is.last.0 is.turn is.last.1 is.last.2 is.ordered),
    )

pub returns : goal.returns
returns c = λ v history is.
    let told = c.fetch_add.ensures.2 v history is.at.me in
    let now : IsAt c.args.self.now _ (appending v history) ((0, history) ∷ []) = record {
      table = c.fetch_add.ensures.0 ∙ is.at.table;
      me = told.1;
      number = is.at.number;
      passes = is.at.passes;
      ordered = is.ordered;
      of = told.0;
    } in
    record { at = now; turn = refl }
