-- The states at the next tick are the kind's terms over bands, which keep its limits.
use Rattle.std.proofs.Common.{sym, subst}
use Rattle.quant.specs.Interval.{AllInside}
use Rattle.unit_tests.proofs.steps.step.Goals as goal

pub returns : goal.returns
returns g c = subst (λ states. AllInside states (g.K.Kind.state_limits c.args.kind.now)) (sym c.next_band.ensures)
    (g.met.K.Kind.next_limited c.args.kind.now c.args.state.now c.args.ins.now c.requires.sound)
