use Rattle.std.proofs.Common.{rules, ◌+◌, ◌<◌, true≢false, eq-eqb, eqb-true, refl, sym, ◌∙◌, subst}
use mathlib.Core.Option.{none}
use Rattle.atomic_table.specs.Table.{Allows, step}
use Rattle.stream_cell.specs.declared.view.Turn.TheVariants.{Free, Held}
use Rattle.stream_cell.specs.Cell.{IsCell}
use Rattle.stream_cell.specs.Passes.{missed}
use Rattle.stream_cell.specs.Seats.{pass_view}
use Rattle.stream_cell.specs.Kinds.{MyMe, seized}
use Rattle.stream_cell.proofs.Passing.{of_turning}
use Rattle.stream_cell.proofs.Seating.{seated}
use Rattle.stream_cell.proofs.Stepping.{seizes}
use Rattle.stream_cell.proofs.passes.StreamCell.seize.Goals as goal

pub swap-requires : goal.swap-requires
swap-requires c =
    let table = c.args.self.now.table.shared in (
      c.requires.table,
      search rules,
      subst (λ (me : MyMe). Allows (IsCell table.key) table.table_id.slots c.args.pass.now.seat.id me 0 (λ _. 1) (seized (step table.table_id.slots 0 1 0 none) me))
          (sym c.requires.me) (seizes table.key _ _ (step table.table_id.slots 0 1 0 none) (pass_view c.args.pass.now) c.requires.free),
    )

pub returns-clause-busy : goal.returns-clause-busy
returns-clause-busy c = λ busy.
    let told = (c.swap.ensures.2 (pass_view c.args.pass.now) c.requires.me).1 (λ e. true≢false (sym (eq-eqb c.swap.result 0 e) ∙ busy)) in
    let now = seated c.args.self.now _ (missed (pass_view c.args.pass.now))
    (record {
      table = c.swap.ensures.0 ∙ c.requires.table;
      me = told.1;
      number = c.requires.number;
      passes = c.requires.passes;
      ordered = c.requires.ordered;
      of =
          let v = pass_view c.args.pass.now in
          of_turning v.seen v Free v.looks (v.misses + 1) c.requires.of;
    }) refl in
    (now.0, now.1, subst (λ n. 1 < n) c.requires.passes told.0)

pub returns-clause-held : goal.returns-clause-held
returns-clause-held c = λ held.
    let told = (c.swap.ensures.2 (pass_view c.args.pass.now) c.requires.me).0 (eqb-true c.swap.result 0 held) in (
      told.0,
      record {
        table = c.swap.ensures.0 ∙ c.requires.table;
        me = told.1;
        number = c.requires.number;
        passes = c.requires.passes;
        ordered = c.requires.ordered;
        of =
            let v = pass_view c.args.pass.now in
            of_turning v.seen v (Held told.0) v.looks v.misses c.requires.of;
      },
    )
