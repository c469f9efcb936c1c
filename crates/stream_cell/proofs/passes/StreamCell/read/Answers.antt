use Rattle.std.proofs.Common.{rules, ◌∷◌, [], refl, sym, ◌∙◌, subst}
use mathlib.Core.Option.{none}
use Rattle.atomic_table.specs.Table.{Allows, step}
use Rattle.stream_cell.specs.Cell.{IsCell}
use Rattle.stream_cell.specs.Histories.{IsHistoryOf}
use Rattle.stream_cell.specs.Seats.{opening_of}
use Rattle.stream_cell.specs.Kinds.{MyMe, holding, read, reading}
use Rattle.stream_cell.specs.Steps.{IsAt}
use Rattle.stream_cell.proofs.Growing.{first_tube}
use Rattle.stream_cell.proofs.Stepping.{reads}
use Rattle.stream_cell.proofs.passes.StreamCell.read.Goals as goal

pub load-requires : goal.load-requires
load-requires c =
    let table = c.args.self.now.table.shared in
    let at = c.requires.2 in (
      at.table,
      search rules,
      subst (λ (me : MyMe). Allows (IsCell table.key) table.table_id.slots c.args.pass.now.seat.id me 1 (λ n. n) (read (step table.table_id.slots 1 0 0 none) me))
          (sym at.me) (reads table.key _ _ (step table.table_id.slots 1 0 0 none) (holding c.requires.0 c.requires.1) c.requires.1 refl),
    )

pub returns : goal.returns
returns c = λ v history at.
    let told = c.load.ensures.2 (holding v history) history at.me refl in
    let opening = opening_of c.args.self.now in
    let ordered = subst (λ tube. IsHistoryOf tube history) (first_tube opening v.seen at.ordered) told.1 in
    let now : IsAt c.args.self.now _ (reading v history) ((0, history) ∷ []) = record {
      table = c.load.ensures.0 ∙ at.table;
      me = told.3;
      number = at.number;
      passes = at.passes;
      ordered = ordered;
      of = told.2;
    } in
    (record { at = now; turn = refl }, told.0)
