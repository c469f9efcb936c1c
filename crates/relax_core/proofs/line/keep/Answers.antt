-- The bands are appended at once, or nothing is.
use Rattle.std.proofs.Common.{◌≡◌, ◌∙◌, List, [], ◌++◌, sym, append-nil, if◌then◌else◌, Result, Ok, Err}
use Rattle.std.specs.Prelude.{is_ok}
use Rattle.quant.specs.Interval.{Interval}
use Rattle.relax_core.proofs.line.keep.Goals as goal

grown : {A E : Type 0} (r : Result A E) (before after bands : List Interval) →
    after ≡ (if is_ok r then before ++ bands else before) → (more : List Interval) × (after ≡ before ++ more)
grown (Ok a) before after bands is = (bands, is)
grown (Err e) before after bands is = ([], is ∙ sym (append-nil before))

pub returns-clause-grows : goal.returns-clause-grows
returns-clause-grows c =
    grown c.extend_from_slice.result c.args.replaced.now.items c.extend_from_slice.new.self.items c.rows_from.result.now
    c.extend_from_slice.ensures.items
