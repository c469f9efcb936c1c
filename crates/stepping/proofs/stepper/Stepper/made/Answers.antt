-- The session's next window, or its end.
use Rattle.std.proofs.Common.{◌≡◌, ◌∙◌, subst, ap, refl}
use Rattle.parts.specs.Parts.{FileParts}
use Rattle.window_accept.specs.Session.{SessionOf, IsSession, finished}
use Rattle.stepping.specs.declared.stepper.Stepped.{Stepped}
use Rattle.stepping.proofs.Answered.{asked, asked-with, going-on, unfed-end, all-given, all-ended, all-stand}
use Rattle.stepping.proofs.stepper.Stepper.made.Goals as goal

pub returns-then-self-parts-clause-err : goal.returns-then-self-parts-clause-err
returns-then-self-parts-clause-err g c =
    let last = ap (λ (p : FileParts). p.ticks) (c.behind-self.view_is ∙ c.parts.ensures.parts) in
    finished c.requires.end (subst (λ (s : SessionOf). s.tick ≡ s.parts.ticks) c.self.view_is
    (c.if-self-parts.true ∙ last)) refl refl

pub stepped-requires-clause-feeds : goal.stepped-requires-clause-feeds
stepped-requires-clause-feeds g c =
    (asked-with _ c.args.self.now c.next_ticks.result _ _ _ _ c.self.view_is c.next_ticks.ensures c.as_slice.ensures
    c.in-Ok.ensures.gives).tubes

pub returns-in-Ok : goal.returns-in-Ok
returns-in-Ok g c =
    let now = c.args.self.now in
    let feeds = c.as_slice.result.now in
    let going = going-on _ now _ c.self.view_is (c.behind-self.view_is ∙ c.parts.ensures.parts)
    c.self.invariant.session_is c.requires.end c.if-self-parts.false in
    let asks = asked-with _ now c.next_ticks.result _ _ _ _ c.self.view_is c.next_ticks.ensures c.as_slice.ensures
    c.in-Ok.ensures.gives in
    record {
      ok = all-given now _ _ going (λ (made : Stepped). made.text) (λ made. made.row) feeds c.stepped.result asks
          c.windows_keep_limits.ensures c.stepped.ensures.ok;
      stepper = all-stand (λ (made : Stepped). made.text) (λ made. made.row) now feeds c.stepped.result
          (subst IsSession c.self.view_is c.self.invariant.session_is) c.windows_carry_the_run.ensures.within
          c.stepped.ensures.ok;
      err = all-ended now _ _ going feeds c.stepped.result asks c.stepped.ensures.err;
    }

pub returns-in-Err-clause-err : goal.returns-in-Err-clause-err
returns-in-Err-clause-err g c =
    let now = c.args.self.now in
    unfed-end now _ _ (going-on _ now _ c.self.view_is (c.behind-self.view_is ∙ c.parts.ensures.parts)
    c.self.invariant.session_is c.requires.end c.if-self-parts.false) c.in-Err.fault c.from.result c.from.ensures
    (asked _ now c.next_ticks.result _ _ _ c.self.view_is c.next_ticks.ensures c.in-Err.ensures.gives)
