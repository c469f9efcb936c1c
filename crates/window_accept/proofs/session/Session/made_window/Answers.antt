-- Where there is a plan, its settled window is judged; each end is one of the session's.
use Rattle.std.proofs.Common.{◌∙◌, ap, subst, true}
use Rattle.std.proofs.lemmas.Result.{err_from_is_err_and}
use Rattle.parts.specs.Parts.{FileParts}
use Rattle.window_accept.specs.Session.{IsSession, IsGoingOn}
use Rattle.window_accept.proofs.Making.{finishes, goes-on, planned-starved, planned-wide, planned-next}
use Rattle.window_accept.proofs.session.Session.made_window.Goals as goal

pub returns-then-parts-self-clause-makes : goal.returns-then-parts-self-clause-makes
returns-then-parts-self-clause-makes g c = finishes true _ c.args.self.now _ c.behind-self.inside.ticks
    c.self.view_is c.self.invariant c.requires.unended
    (ap (λ (parts : FileParts). parts.ticks) (c.behind-self.view_is ∙ c.parts.ensures.parts)) c.if-parts-self.true

pub returns-in_err-settled-clause-makes : goal.returns-in_err-settled-clause-makes
returns-in_err-settled-clause-makes g c =
    let going : IsGoingOn c.args.self.now = goes-on _ c.args.self.now c.behind-self.inside.ticks c.self.view_is c.requires.unended
    (ap (λ (parts : FileParts). parts.ticks) (c.behind-self.view_is ∙ c.parts.ensures.parts)) c.if-parts-self.false in
    let p = err_from_is_err_and c.from_residual-in_err-settled.result c.from_residual-in_err-settled.ensures.1 in
    rw (p.1, p.2) (planned-starved c.args.self.now _ _ _ going c.in_ok-plan.ensures)

pub returns-in-Some-clause-makes : goal.returns-in-Some-clause-makes
returns-in-Some-clause-makes g c =
    let going : IsGoingOn c.args.self.now = goes-on _ c.args.self.now c.behind-self.inside.ticks c.self.view_is c.requires.unended
    (ap (λ (parts : FileParts). parts.ticks) (c.behind-self.view_is ∙ c.parts.ensures.parts)) c.if-parts-self.false in
    planned-wide c.args.self.now _ _ c.in_ok-plan.plan going c.in_ok-plan.ensures
    c.in-Some.place c.in-Some.ensures

pub returns-clause-makes : goal.returns-clause-makes
returns-clause-makes g c =
    let going : IsGoingOn c.args.self.now = goes-on _ c.args.self.now c.behind-self.inside.ticks c.self.view_is c.requires.unended
    (ap (λ (parts : FileParts). parts.ticks) (c.behind-self.view_is ∙ c.parts.ensures.parts)) c.if-parts-self.false in
    planned-next c.args.self.now _ _ c.in_ok-plan.plan going c.in_ok-plan.ensures
    c.in_ok-settled.settled (subst IsSession c.self.view_is c.self.invariant) c.in_ok-settled.ensures.settled c.in-None.ensures
    (c.windows_carry_the_run.ensures.within c.in_ok-plan.plan c.in_ok-plan.ensures.can_be)
