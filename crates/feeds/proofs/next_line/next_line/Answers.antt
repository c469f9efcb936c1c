-- What is found is the first of what is left.
use Rattle.std.proofs.Common.{◌≡◌, ◌∙◌, ℕ, List, [], ◌∷◌, drop, ap, subst, sym, arith}
use Rattle.std.specs.Prelude.{slice_range}
use Rattle.flow_edge.specs.ReadText.{ReadText}
use Rattle.lines.specs.Lines.{lines_of, IsLineAt}
use Rattle.feeds.specs.Records.{whole}
use Rattle.feeds.specs.Taking.{entries_at}
use Rattle.feeds.proofs.NextLines.{none_ended, cut-left, line-left, further}
use Rattle.feeds.proofs.next_line.next_line.Goals as goal

pub returns-then-text : goal.returns-then-text
returns-then-text c =
    let bytes = c.as_slice-bytes.ensures.value ∙ ap (λ (text : ReadText). text.bytes) c.text.view_is in
    let more = sym (ap (λ (text : ReadText). text.more) c.text.view_is) ∙ c.if-text.true in
    cut-left c.args.text.now c.args.from
    (none_ended (drop c.args.from c.args.text.now.bytes)
    (subst (λ (xs : List ℕ). lines_of (drop c.args.from xs) ≡ []) bytes
    c.in_default.ensures)) more

pub is_cut_off-requires-clause-some : goal.is_cut_off-requires-clause-some
is_cut_off-requires-clause-some c =
    let on = further c.as_slice-bytes.result.now c.args.from c.in-Some.line c.in-Some.ensures in
    omega arith

pub returns-then-is_cut_off : goal.returns-then-is_cut_off
returns-then-is_cut_off c =
    let bytes = c.as_slice-bytes.ensures.value ∙ ap (λ (text : ReadText). text.bytes) c.text.view_is in
    let line : IsLineAt c.args.text.now.bytes c.args.from c.in-Some.line =
    subst (λ (xs : List ℕ). IsLineAt xs c.args.from c.in-Some.line) bytes c.in-Some.ensures in
    let cut = c.if-is_cut_off.ensures in
    cut-left c.args.text.now c.args.from (line.unended cut.1).0 cut.0

pub returns : goal.returns
returns c =
    let bytes = c.as_slice-bytes.ensures.value ∙ ap (λ (text : ReadText). text.bytes) c.text.view_is in
    let line : IsLineAt c.args.text.now.bytes c.args.from c.in-Some.line =
    subst (λ (xs : List ℕ). IsLineAt xs c.args.from c.in-Some.line) bytes c.in-Some.ensures in (
      line-left c.args.text.now c.args.from c.in-Some.line line c.if-is_cut_off.ensures
          ∙ ap (λ (xs : List ℕ). whole (slice_range xs c.in-Some.line.start c.in-Some.line.stop)
          ∷ entries_at c.args.text.now c.in-Some.line.after) (sym bytes),
      further c.args.text.now.bytes c.args.from c.in-Some.line line,
      line.inside,
    )
