-- One tick more has its bands, and where all ticks do, the tube is whole.
use Rattle.std.proofs.Common.{◌≡◌, ◌∙◌, ◌+◌, ℕ, sym, subst, arith}
use Rattle.feeds.specs.Ticks.{IsGivenBefore}
use Rattle.feeds.proofs.Ticks.{channels-steady, given-more, given-all}
use Rattle.feeds.proofs.given.given_tube.Goals as goal

pub write_given-requires-clause-channels : goal.write_given-requires-clause-channels
write_given-requires-clause-channels c =
    channels-steady c.args.kind.now _ c.args.first
    ∙ sym (c.loop-tick.invariant.channels c.loop-tick.tick c.loop-tick-test.true)

pub loop-tick-preserved : goal.loop-tick-preserved
loop-tick-preserved c =
    subst (IsGivenBefore c.args.kind.now c.args.first c.args.ticks (c.loop-tick.tick + 1)) (sym c.write_given.ensures)
    (given-more c.args.kind.now c.args.first c.args.ticks c.loop-tick.tick c.loop-tick.tube c.loop-tick-test.true
    c.loop-tick.invariant)

pub returns : goal.returns
returns c =
    let all : c.loop-tick.tick ≡ c.args.ticks = omega (arith, c.loop-tick-test.false, c.loop-tick.auto.tick-end) in
    given-all c.args.kind.now c.args.first c.args.ticks c.loop-tick.tube
    (subst (λ (n : ℕ). IsGivenBefore c.args.kind.now c.args.first c.args.ticks n c.loop-tick.tube) all
    c.loop-tick.invariant)
