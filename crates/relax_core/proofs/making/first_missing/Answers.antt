use Rattle.std.proofs.Common.{arith}
use Rattle.relax_core.proofs.Readings.{there-each}
use Rattle.relax_core.proofs.making.first_missing.Goals as goal

pub returns : goal.returns
returns c = there-each c.args.lines.now c.args.reads.now c.args.versions.now c.requires.counted
    (λ p l. c.loop-input.invariant p (omega (arith, l, c.loop-input-test.false)))
