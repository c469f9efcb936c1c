use Rattle.std.proofs.Common.{sym, ◌∙◌, subst}
use Rattle.std.proofs.lemmas.Result.{err_from_is_err_and}
use Rattle.plant_checks.specs.Checks.{Fails}
use Rattle.plant_checks.proofs.Checks.{goes_on, ends}
use Rattle.plant_checks.proofs.each.each.Goals as goal

pub returns-in_err-check : goal.returns-in_err-check
returns-in_err-check g c =
    let check = g.C.Check.check c.args.check.now in
    let p = err_from_is_err_and c.from_residual.result c.from_residual.ensures.1 in
    let whole =
    sym (goes_on check c.args.items.now c.loop-index.index c.index-items-index.result c.loop-index-test.true
    c.index-items-index.is) ∙ c.loop-index.invariant in
    rw (p.1, p.2)
    (subst (Fails c.in_err-check.field-0.0) whole (ends c.in_err-check.field-0.0 _ _ c.in_err-check.ensures))

pub loop-index-preserved : goal.loop-index-preserved
loop-index-preserved g c =
    let check = g.C.Check.check c.args.check.now in
    let whole =
    sym (goes_on check c.args.items.now c.loop-index.index c.index-items-index.result c.loop-index-test.true
    c.index-items-index.is) ∙ c.loop-index.invariant in
    rw c.in_ok-check.ensures at whole
