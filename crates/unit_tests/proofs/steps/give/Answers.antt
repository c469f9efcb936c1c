-- The outputs are the kind's terms over bands, which keep its limits.
use Rattle.std.proofs.Common.{sym, subst}
use Rattle.quant.specs.Interval.{AllInside}
use Rattle.unit_tests.proofs.steps.give.Goals as goal

pub returns : goal.returns
returns g c = subst (λ outs. AllInside outs (g.I.Instant.output_limits c.args.kind.now)) (sym c.now_band.ensures)
    (g.met.I.Instant.now_limited c.args.kind.now c.args.ins.now c.requires.sound)
