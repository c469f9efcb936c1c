use Rattle.std.proofs.Common.{rules, refl, sym, ◌∙◌, subst}
use mathlib.Core.Option.{none}
use Rattle.atomic_table.specs.Table.{Allows, step}
use Rattle.stream_cell.specs.declared.view.Turn.TheVariants.{Free}
use Rattle.stream_cell.specs.Cell.{IsCell}
use Rattle.stream_cell.specs.Kinds.{MyMe, free, released}
use Rattle.stream_cell.proofs.Passing.{of_turning}
use Rattle.stream_cell.proofs.Seating.{seated}
use Rattle.stream_cell.proofs.Stepping.{releases}
use Rattle.stream_cell.proofs.passes.StreamCell.release.Goals as goal

pub swap-requires : goal.swap-requires
swap-requires c =
    let table = c.args.self.now.table.shared in
    let is = c.requires.1 in (
      is.at.table,
      search rules,
      subst (λ (me : MyMe). Allows (IsCell table.key) table.table_id.slots c.args.pass.now.seat.id me 0 (λ _. 0) (released (step table.table_id.slots 0 0 0 none) me))
          (sym is.at.me) (releases table.key _ _ (step table.table_id.slots 0 0 0 none) c.requires.0 (search rules) is.turn),
    )

pub returns : goal.returns
returns c = λ v is. seated c.args.self.now _ (free v)
    (record {
      table = c.swap.ensures.0 ∙ is.at.table;
      me = c.swap.ensures.2 v v.seen is.at.me;
      number = is.at.number;
      passes = is.at.passes;
      ordered = is.at.ordered;
      of = of_turning v.seen v Free v.looks v.misses is.at.of;
    }) refl
