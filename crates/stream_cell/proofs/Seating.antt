-- What a seat that stands for one pass alone lends it, and that it is a pass of its cell.
use Rattle.std.proofs.Common.{◌≡◌, ℕ, List, [], ◌∷◌, sym, ap, ◌∙◌, subst}
use Rattle.atomic_table.specs.Table.{rest}
use Rattle.relaxation.specs.History.{History}
use Rattle.stream_cell.specs.declared.view.PassView.{PassView}
use Rattle.stream_cell.specs.declared.view.Turn.TheVariants.{Free}
use Rattle.stream_cell.specs.declared.passes.StreamCell.{StreamCell}
use Rattle.stream_cell.specs.declared.passes.CellPass.{CellPass}
use Rattle.stream_cell.specs.Histories.{IsHistoryOf}
use Rattle.stream_cell.specs.Passes.{IsOf}
use Rattle.stream_cell.specs.Seats.{IsPassOf, opening_of, pass_view, the_one}
use Rattle.stream_cell.specs.Kinds.{MyMe}
use Rattle.stream_cell.specs.Steps.{IsAt}

pub seated : (cell : StreamCell) (pass : CellPass) (v : PassView) → IsAt cell pass v [] → v.turn ≡ Free → IsPassOf cell pass × (pass_view pass ≡ v)
seated cell pass v at turn =
    let same : pass_view pass ≡ v = ap (λ (me : MyMe). the_one me.0) at.me in (
      record {
        table = at.table;
        me = at.me ∙ ap (λ (u : PassView). (u ∷ [], [])) (sym same);
        number = at.number ∙ ap (λ (u : PassView). u.number) (sym same);
        passes = ap (λ (u : PassView). u.passes) same ∙ at.passes;
        free = ap (λ (u : PassView). u.turn) same ∙ turn;
        ordered = subst (λ (u : PassView). IsHistoryOf (opening_of cell) u.seen) (sym same) at.ordered;
        of = subst (λ (u : PassView). IsOf u.seen u) (sym same) at.of;
      },
      same,
    )

-- the history that is out
abbrev pub first_out : List (ℕ × History) → History
first_out [] = []
first_out (x ∷ xs) = x.1

pub lends : (cell : StreamCell) (pass : CellPass) (v : PassView) (history : History) → IsAt cell pass v ((0, history) ∷ []) →
    pass.seat.me.1 ≡ (0, history) ∷ rest pass.seat.me.1
lends cell pass v history at =
    let out : pass.seat.me.1 ≡ (0, history) ∷ [] = ap (λ (me : MyMe). me.1) at.me in
    out ∙ ap (λ (l : List (ℕ × History)). (0, history) ∷ rest l) (sym out)

pub lent : (cell : StreamCell) (pass : CellPass) (v : PassView) (history now : History) → IsAt cell pass v ((0, history) ∷ []) →
    pass.seat.me.1 ≡ (0, now) ∷ rest pass.seat.me.1 → now ≡ history
lent cell pass v history now at is = ap first_out (sym is ∙ ap (λ (me : MyMe). me.1) at.me)
