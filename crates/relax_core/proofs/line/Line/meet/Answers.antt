-- What is kept leads from the meet back to the version before it.
use Rattle.std.proofs.Common.{◌∙◌, List, [], ◌∷◌, ◌++◌, ap, refl, arith, Result, Ok, Err, OnErr}
use Rattle.quant.specs.Interval.{Interval}
use Rattle.relax_core.specs.Versions.{all_versions}
use Rattle.relax_core.specs.declared.line.Change.{Change}
use Rattle.relax_core.proofs.Meets.{met-is}
use Rattle.relax_core.proofs.Replaced.{all-more, met-line, met-versions}
use Rattle.relax_core.proofs.line.Line.meet.Goals as goal

on-err : {A E : Type 0} (P : Type 0) (r : Result A E) → P → OnErr r P
on-err P (Ok a) p = tt
on-err P (Err e) p = p

pub returns-in_err-keep-clause-err : goal.returns-in_err-keep-clause-err
returns-in_err-keep-clause-err c =
    let newest = c.args.self.now.newest in
    let grows = c.in_err-keep.ensures.grows in
    on-err _ c.from_residual-in_err-keep.result (
    ap (all_versions c.keep.new.replaced.items newest) c.in_ok-reserve.ensures.items
    ∙ ap (λ (list : List Interval). all_versions list newest c.args.self.now.changes.items) grows.1
    ∙ all-more c.args.replaced.now.items grows.0 newest c.args.self.now.changes.items c.requires.line)

pub returns-clause-line : goal.returns-clause-line
returns-clause-line c =
    met-line c.args.replaced.now.items c.keep.new.replaced.items c.args.self.now.newest c.args.renewal.now
    c.meet_into-met.new.self c.args.self.now.changes.items c.push_reserved.new.self.items c.same_ticks-tick.result
    c.len-start.result c.in_ok-keep.ensures.kept
    (c.push_reserved.ensures.items
    ∙ ap (λ (list : List Change). list ++ (record { tick = c.same_ticks-tick.result; start = c.len-start.result }) ∷ []) c.in_ok-reserve.ensures.items)
    (met-is _ c.args.self.now.newest c.args.renewal.now _ _ refl c.requires.shape c.requires.numbers c.meet_into-met.ensures)
    (omega (arith, c.len-start.ensures)) c.requires.shape c.same_ticks-tick.ensures c.requires.line

pub returns-clause-ok : goal.returns-clause-ok
returns-clause-ok c =
    met-versions c.args.replaced.now.items c.keep.new.replaced.items c.args.self.now.newest c.args.renewal.now
    c.meet_into-met.new.self c.args.self.now.changes.items c.push_reserved.new.self.items c.same_ticks-tick.result
    c.len-start.result c.in_ok-keep.ensures.kept
    (c.push_reserved.ensures.items
    ∙ ap (λ (list : List Change). list ++ (record { tick = c.same_ticks-tick.result; start = c.len-start.result }) ∷ []) c.in_ok-reserve.ensures.items)
    (met-is _ c.args.self.now.newest c.args.renewal.now _ _ refl c.requires.shape c.requires.numbers c.meet_into-met.ensures)
    (omega (arith, c.len-start.ensures)) c.requires.shape c.same_ticks-tick.ensures c.requires.line
