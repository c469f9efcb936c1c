-- What it holds is renewed before the tick.
use Rattle.renewal.proofs.Renewed.{renewed-before}
use Rattle.renewal.proofs.renewing.renew_from.Goals as goal

pub renew_ticks-requires-clause-renewed : goal.renew_ticks-requires-clause-renewed
renew_ticks-requires-clause-renewed c =
    renewed-before c.args.plan.now c.args.unit c.args.from c.args.inputs.now c.args.outputs.now c.requires.from
    c.requires.renewed c.requires.room
