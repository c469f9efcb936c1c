-- Where the rows of a window stand in a legal trace.
use Rattle.std.proofs.Common.{◌≡◌, ◌∙◌, ◌⊎◌, inl, inr, refl, sym, ap, subst, ℕ, zero, suc, ◌<◌, List, [], ◌++◌, append_assoc, append-nil, arith}
use Rattle.std.proofs.lemmas.Bool.{cases_lt}
use Rattle.relaxation.specs.Window.{Window}
use Rattle.relax_core.specs.Board.{RowOf}
use Rattle.relax_core.specs.Settled.{Settles}
use Rattle.report.specs.Trace.{IsTrace, opening, next, trace_rows}

abbrev Stands : List (List ℕ) → (ℕ → Window) → ℕ → List ℕ → Type 0
Stands names window w text =
    (before : List ℕ) × (rows : List RowOf) × (after : List ℕ) × Settles (window w) rows
    × (text ≡ before ++ (trace_rows names w rows ++ after))

last-or : (w k : ℕ) → w < suc k → (w < k) ⊎ (w ≡ k)
last-or w k l = elim (cases_lt w k) [ inl less ↦ inl less | inr more ↦ inr (omega arith) ]

-- the rows of a window stand in a longer text too
longer : (names : List (List ℕ)) (window : ℕ → Window) (w : ℕ) (text more : List ℕ) → Stands names window w text →
    Stands names window w (text ++ more)
longer names window w text more h = (
  h.0,
  h.1,
  h.2 ++ more,
  h.3,
  ap (λ t. t ++ more) h.4 ∙ append_assoc h.0 (trace_rows names w h.1 ++ h.2) more
      ∙ ap (λ t. h.0 ++ t) (append_assoc (trace_rows names w h.1) h.2 more),
)

pub stands : (names : List (List ℕ)) (window : ℕ → Window) (k : ℕ) (text : List ℕ) → IsTrace names window k text →
    (w : ℕ) → w < k → Stands names window w text
stands names window zero text opening w l = absurd (omega arith)
stands names window (suc k) text (next j before rows is settles) w l = elim (last-or w k l) [
  | inl less ↦ longer names window w before (trace_rows names k rows) (stands names window k before is w less)
  | inr same ↦ subst (λ w. Stands names window w (before ++ trace_rows names k rows)) (sym same)
      (before, rows, [], settles, ap (λ t. before ++ t) (sym (append-nil (trace_rows names k rows))))
]
