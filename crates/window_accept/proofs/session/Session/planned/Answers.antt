-- What is given can be planned; where it is not given the session ends.
use Rattle.std.proofs.Common.{refl, inr, true, Ok}
use Rattle.std.proofs.lemmas.Result.{err_from_is_err_and}
use Rattle.window_accept.specs.Session.{starved}
use Rattle.window_accept.proofs.Making.{fault-ends, asked-by, can-be-planned}
use Rattle.window_accept.proofs.session.Session.planned.Goals as goal

pub returns-in_err-tubes : goal.returns-in_err-tubes
returns-in_err-tubes g c =
    let p = err_from_is_err_and c.from_residual.result c.from_residual.ensures.1 in
    rw (p.1, p.2) (fault-ends true c.args.self.now _ _ c.in_err-tubes.field-0.0 c.requires.going
    (asked-by _ c.args.self.now c.next_ticks-ticks.result _ _ _ c.self.view_is
    c.next_ticks-ticks.ensures c.in_err-tubes.ensures.gives))

pub returns-in_err-carried : goal.returns-in_err-carried
returns-in_err-carried g c =
    let p = err_from_is_err_and c.from_residual-in_err-carried.result c.from_residual-in_err-carried.ensures.1 in
    rw (p.1, p.2) (starved c.requires.going (inr (
      Ok c.in_ok-tubes.tubes,
      asked-by _ c.args.self.now
          c.next_ticks-ticks.result _ _ _ c.self.view_is c.next_ticks-ticks.ensures
          c.in_ok-tubes.ensures.gives,
    )) refl)

pub new-requires : goal.new-requires
new-requires g c = can-be-planned _ c.args.self.now c.next_ticks-ticks.result c.in_ok-carried.carried c.in_ok-tubes.tubes
    _ _ c.self.view_is c.self.invariant c.requires.going c.next_ticks-ticks.ensures
    c.in_ok-carried.ensures c.in_ok-tubes.ensures.gives c.given_feeds_can_be_planned.ensures.plan
